-- The bodies of the files of a package in memory, before anything is known of their literals.
use Rattle.std.specs.Prelude.{ℕ, ◌≡◌, List, length, Some, slice_get}
use Rattle.calls_flags.specs.FilesBodies.{with_credits, TellsWithCredits}
use Rattle.calls_flags.specs.declared.file_bodies.FileBodies.{FileBodies}
use Rattle.meaning.specs.Uses.{Seen}

-- what is kept is the file of that number that was seen so, whatever credits it has
abbrev pub IsBare : ℕ → Seen → FileBodies → Type 0
IsBare number seen kept = TellsWithCredits number (with_credits seen kept) kept

pub record AreBare (seens : List Seen) (kept : List FileBodies) : Type 0 where
  pub are_as_many : length seens ≡ length kept
  pub each : (i : ℕ) (seen : Seen) (k : FileBodies)
      → slice_get seens i ≡ Some seen
      → slice_get kept i ≡ Some k
      → IsBare i seen k
