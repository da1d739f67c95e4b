use Rattle.std.proofs.Common.{◌≡◌, ◌<◌, ℕ, None, true, length}
use Rattle.std.specs.Prelude.{◌↔◌, slice_get}
use Rattle.imports.specs.Views.{rank_of}
use Rattle.whole_packages.specs.WholeEntries.{is_set}
use Rattle.whole_packages.proofs.whole.unranked.Given as goal

-- the marks so far are those of the packages before the place
abbrev pub invariant-loop-place : goal.invariant-loop-place
invariant-loop-place l =
    (length l.marks.items ≡ l.place)
    × ((j : ℕ) → (is_set (slice_get l.marks.items j) ≡ true) ↔ ((j < l.place) × (rank_of l.order j ≡ None)))
