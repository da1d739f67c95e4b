-- What is kept of the use at an offset.
use Rattle.std.specs.Prelude.{ℕ, ◌≡◌, ◌≤◌, if◌then◌else◌, Option, Some, length, slice_index_or, nat_eq}
use Rattle.names.specs.declared.meanings.NameMeaning.{NameMeaning}
use Rattle.names.specs.declared.use_meanings.UseMeanings.{UseMeanings}
use Rattle.names.specs.UseMeanings.{block_of, in_chain}

-- the number with which the chain of the block begins
abbrev pub first_of : UseMeanings → ℕ → ℕ
first_of kept block = slice_index_or kept.firsts.items block 0

-- what the use means that begins at the offset, if one does
abbrev pub kept_at : UseMeanings → ℕ → Option NameMeaning
kept_at kept at = in_chain (first_of kept (block_of at)) kept.uses.items (first_of kept (block_of at)) at

-- each chain begins with a use that is there
abbrev pub AreNumbered : UseMeanings → Type 0
AreNumbered kept = (block : ℕ) → first_of kept block ≤ length kept.uses.items

-- the offset has this meaning now, and what is kept of the others is the same
pub record Keeps (before after : UseMeanings) (at : ℕ) (meaning : NameMeaning) : Type 0 where
  pub numbered : AreNumbered after
  pub kept : (k : ℕ) → kept_at after k ≡ (if nat_eq at k then Some meaning else kept_at before k)
