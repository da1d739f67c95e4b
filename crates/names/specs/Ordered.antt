-- Locals that count, their order by name and block, and where those of a name stand.
use Rattle.std.specs.Prelude.{ℕ, ◌≡◌, ◌≤◌, ◌<◌, ◌⊎◌, Option, Some, None, List, map, length, slice_get, All, AllPairs}
use Rattle.std.specs.Borrow.{Bor}
use Rattle.std.specs.Ordering.{nat_cmp}
use Rattle.std.specs.Cmp.Lexicographic.{slice_cmp}
use Rattle.std.specs.declared.cmp.Ordering.TheVariants.{Less}
use Rattle.indexmap.specs.IndexMap.{IndexMap, values}
use Rattle.scopes.specs.declared.naming.LocalName.{LocalName as KeptLocal}
use Rattle.scopes.specs.Views.{local_view}
use Rattle.meaning.specs.Scopes.{LocalName}
use Rattle.meaning.specs.Declarations.{first_locals}
use Rattle.names.specs.declared.order.Run.{Run}

abbrev pub locals_view : List KeptLocal → List LocalName
locals_view ls = map local_view ls

-- the key is the name of the local and the start of its block
abbrev pub FitsKey : (Bor (List ℕ) × ℕ) × KeptLocal → Type 0
FitsKey entry = (entry.0.0.now ≡ entry.1.name.now) × (entry.0.1 ≡ entry.1.block.start)

-- the map has those of the locals that count, in their order, each under its own key
pub record AreFirst {S : Type 0} (m : IndexMap (Bor (List ℕ) × ℕ) KeptLocal S) (locals : List LocalName) : Type 0 where
  pub first : locals_view (values m) ≡ first_locals locals
  pub fit : All FitsKey m.entries

-- the local does not come after the other: by name, and of one name by the start of its block
abbrev pub IsNotAfter : LocalName → LocalName → Type 0
IsNotAfter l m =
    (slice_cmp nat_cmp l.name m.name ≡ Less) ⊎ ((l.name ≡ m.name) × (l.block.start ≤ m.block.start))

-- each local, and all that stand after it
abbrev pub AreOrdered : List LocalName → Type 0
AreOrdered locals = AllPairs IsNotAfter locals

-- of two locals of the run the block of the second begins no earlier
abbrev pub IsByStart : List LocalName → Run → Type 0
IsByStart locals run =
    (i j : ℕ) (l m : LocalName) → run.start ≤ i → i < j → j < run.end → slice_get locals i ≡ Some l
    → slice_get locals j ≡ Some m → l.block.start ≤ m.block.start

-- the locals of the name are those of the run, by the start of their blocks
pub record IsRun (locals : List LocalName) (name : List ℕ) (run : Run) : Type 0 where
  pub in_order : run.start ≤ run.end
  pub within : run.end ≤ length locals
  pub named : (i : ℕ) (l : LocalName) → run.start ≤ i → i < run.end → slice_get locals i ≡ Some l → l.name ≡ name
  pub all : (i : ℕ) (l : LocalName) → slice_get locals i ≡ Some l → l.name ≡ name → (run.start ≤ i) × (i < run.end)
  pub by_start : IsByStart locals run

-- where no local has the name, its run is empty
abbrev pub run_or_empty : Option Run → Run
run_or_empty None = record { start = 0; end = 0 }
run_or_empty (Some run) = run

pub record AreRuns (locals : List LocalName) (runs : List ℕ → Option Run) : Type 0 where
  pub each : (name : List ℕ) → IsRun locals name (run_or_empty (runs name))

-- From the link of a local up to the local itself no block ends after its own.
pub record IsLink (locals : List LocalName) (index link : ℕ) : Type 0 where
  pub back : link ≤ index
  pub ended :
      (i : ℕ) (l m : LocalName) → link ≤ i → i < index → slice_get locals i ≡ Some l → slice_get locals index ≡ Some m
      → l.block.end ≤ m.block.end

pub record AreLinks (locals : List LocalName) (links : List ℕ) : Type 0 where
  pub as_many : length links ≡ length locals
  pub each : (index link : ℕ) → slice_get links index ≡ Some link → IsLink locals index link
