-- What is kept of packages that workers judged, before it is told.
use Rattle.std.specs.Prelude.{ℕ, ◌≡◌, Some}
use Rattle.all_packages.specs.Progress.{Slots, slot_at}
use Rattle.one_package.specs.declared.judged.Judged.{Judged}

-- each may be kept of the package at its place
abbrev pub MayBeKept : (ℕ → Judged → Type 0) → Slots → Type 0
MayBeKept told slots = (place : ℕ) (judged : Judged) → slot_at slots place ≡ Some judged → told place judged
