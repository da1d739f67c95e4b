-- What the program keeps of the files of a package with their bodies and credits, and what it stands for.
use Rattle.std.specs.Prelude.{ℕ, ◌≡◌, List, [], ◌∷◌, length, Some, slice_get}
use Rattle.meaning.specs.Uses.{Seen}
use Rattle.meaning_packages.specs.Credits.{AreFullCredits}
use Rattle.meaning_packages.specs.CallsFlags.{FileWithCredits}
use Rattle.bodies.specs.Bodies.{TellBodies}
use Rattle.events.specs.ToldViews.{TellsFile}
use Rattle.credits.specs.CreditViews.{has}
use Rattle.calls_flags.specs.declared.file_bodies.FileBodies.{FileBodies}

-- the file that was seen so, with the credits that are kept
abbrev pub with_credits : Seen → FileBodies → FileWithCredits
with_credits seen kept = record { seen = seen; credits = has kept.credits }

-- what is kept is that file, which has this number in its package, with its bodies and its credits
pub record TellsWithCredits (number : ℕ) (file : FileWithCredits) (kept : FileBodies) : Type 0 where
  pub tells : TellsFile file.seen kept.told.now
  pub are_bodies : TellBodies number file.seen kept.bodies.items
  pub are_credits : file.credits ≡ has kept.credits

-- the same for all files of a package
pub record TellAll (files : List FileWithCredits) (kept : List FileBodies) : Type 0 where
  pub are_as_many : length files ≡ length kept
  pub each : (i : ℕ) (file : FileWithCredits) (k : FileBodies)
      → slice_get files i ≡ Some file
      → slice_get kept i ≡ Some k
      → TellsWithCredits i file k

-- what is kept is the file of that number that was seen so, with all its credits
pub record HasBodies (number : ℕ) (seen : Seen) (kept : FileBodies) : Type 0 where
  pub tells : TellsWithCredits number (with_credits seen kept) kept
  pub are_full : AreFullCredits seen (has kept.credits)

pub record HaveBodies (seens : List Seen) (kept : List FileBodies) : Type 0 where
  pub are_as_many : length seens ≡ length kept
  pub each : (i : ℕ) (seen : Seen) (k : FileBodies)
      → slice_get seens i ≡ Some seen
      → slice_get kept i ≡ Some k
      → HasBodies i seen k

-- the files that were seen so, with the credits that are kept
abbrev pub with_all_credits : List Seen → List FileBodies → List FileWithCredits
with_all_credits [] ks = []
with_all_credits (seen ∷ seens) [] = []
with_all_credits (seen ∷ seens) (k ∷ ks) = with_credits seen k ∷ with_all_credits seens ks
