-- What is kept of the uses of a file: each use with its offset and its meaning. The uses of one block of the text make
-- a chain: each has the number of the next one, counted from 1. With 0 the chain ends.
use Rattle.std.specs.Prelude.{ℕ, zero, suc, ◌≡◌, ◌<◌, ◌/◌, if◌then◌else◌, Option, Some, None, List, length, slice_get, slice_index_or, min, nat_eq}
use Rattle.names.specs.declared.meanings.NameMeaning.{NameMeaning}
use Rattle.names.specs.declared.use_meanings.TheConstants.{BLOCK}
use Rattle.names.specs.declared.use_meanings.UseMeaning.{UseMeaning}

-- the block of the text that has the offset
abbrev pub block_of : ℕ → ℕ
block_of at = at / BLOCK

-- the meaning of the use, if it is the one at the offset, and else what the uses further on say
abbrev pub in_use : Option UseMeaning → ℕ → (ℕ → Option NameMeaning) → Option NameMeaning
in_use None at further = None
in_use (Some u) at further = if nat_eq u.at at then Some u.meaning else further u.next

-- The meaning of the first use at the offset in the chain that begins with that number. Numbers fall along a chain, so
-- it has no more uses than its first number.
abbrev pub in_chain : ℕ → List UseMeaning → ℕ → ℕ → Option NameMeaning
in_chain zero uses number at = None
in_chain (suc most) uses zero at = None
in_chain (suc most) uses (suc index) at =
    in_use (slice_get uses index) at (λ next. in_chain most uses (min index next) at)

-- the block has its place, and all chains begin as before
pub record Reaches (before after : List ℕ) (block : ℕ) : Type 0 where
  pub reached : block < length after
  pub same : (b : ℕ) → slice_index_or after b 0 ≡ slice_index_or before b 0
