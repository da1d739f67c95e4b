-- What is told of the paths of a package's files, file by file and body by body.
use Rattle.std.specs.Prelude.{ℕ, ◌≡◌, Bool, List, [], ◌++◌, length, map, Some, slice_get, Contains}
use Rattle.body_ways.specs.BodyWays.{ToldWay, IsToldWay}
use Rattle.findings.specs.FoundEntries.{known_paths}
use Rattle.meaning.specs.BodyEvents.{bodies_of, unfollowed_faults}
use Rattle.meaning.specs.Mentions.{BodyPlace}
use Rattle.meaning.specs.Uses.{Callee}
use Rattle.meaning_packages.specs.CallsFlags.{Flags, FileWithCredits, calls_by}
use Rattle.meaning_packages.specs.PathFaults.{PathFault, IsPathFault}
use Rattle.meaning_reports.specs.Loaded.{LoadedPackage, Tables, imported_flags}
use Rattle.reasons.specs.Branches.{branches_of}
use Rattle.silent_files.specs.WalkedFiles.{AreWalked}

-- a shortest way to a fault of one of these bodies, whose paths are followed
pub record IsToldOf (calls : Callee → ℕ → Bool) (file : FileWithCredits) (bodies : List BodyPlace) (t : ToldWay)
    : Type 0 where
  pub body : BodyPlace
  pub is_body : Contains bodies body
  pub is_told : IsToldWay (known_paths calls file body) (branches_of body.statements) t

-- each of these is one, and each fault of the bodies' paths is told
pub record AreToldOf
    (calls : Callee → ℕ → Bool) (file : FileWithCredits) (bodies : List BodyPlace) (told : List ToldWay)
    : Type 0 where
  pub each : (t : ToldWay) → Contains told t → IsToldOf calls file bodies t
  pub all : (b : BodyPlace) (f : PathFault)
      → Contains bodies b
      → unfollowed_faults file.seen b ≡ []
      → IsPathFault (known_paths calls file b) f
      → Contains (map (λ t. t.fault) told) f

-- just those of these bodies are added
pub record AddsTold
    (calls : Callee → ℕ → Bool) (file : FileWithCredits) (bodies : List BodyPlace) (before after : List ToldWay)
    : Type 0 where
  pub added : List ToldWay
  pub is_added : after ≡ before ++ added
  pub are_told : AreToldOf calls file bodies added

-- those of each of these files, by its number
pub record TellWays (calls : Callee → ℕ → Bool) (files : List FileWithCredits) (ways : List (List ToldWay))
    : Type 0 where
  pub are_as_many : length ways ≡ length files
  pub each : (i : ℕ) (file : FileWithCredits) (told : List ToldWay)
      → slice_get files i ≡ Some file
      → slice_get ways i ≡ Some told
      → AreToldOf calls file (bodies_of file.seen) told

-- those of a package without a fault as a whole, of whose files all are walked in which something may be found
pub record ArePackageWays (ps : List LoadedPackage) (tables : Tables) (i : ℕ) (ways : List (List ToldWay))
    : Type 0 where
  pub loaded : LoadedPackage
  pub walked : ℕ → Bool
  pub files : List FileWithCredits
  pub flags : Flags
  pub are_walked : AreWalked ps tables i loaded walked files flags
  pub are_ways : TellWays (calls_by flags (imported_flags loaded tables)) files ways
