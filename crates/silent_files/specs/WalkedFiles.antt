-- Files of a package of which some are not walked. What is to be found is sought in the others alone: a file that may
-- be skipped is looked at as if it had no marks. So it keeps its place and its number.
-- (This tool's rules.)
use Rattle.std.specs.Prelude.{ℕ, ◌+◌, ◌≡◌, ◌↔◌, Bool, true, false, List, [], ◌∷◌, Some, slice_get, unwrap_or, Contains}
use Rattle.tree.specs.Syntax.{SourceFile}
use Rattle.meaning.specs.Tracked.{Known}
use Rattle.meaning.specs.Uses.{Callee, Seen, seen_in}
use Rattle.meaning.specs.BodyEvents.{Variable, seen_file, variables_of}
use Rattle.meaning.specs.KeepingFields.{fields_kept}
use Rattle.meaning_packages.specs.CallsFlags.{Flags, FileWithCredits, AreMost, calls_by}
use Rattle.meaning_reports.specs.Loaded.{LoadedPackage, Tables, trees_of, known_in, imported_flags, seen_files}
use Rattle.meaning_reports.specs.PackageTables.{AreCredited, AreFlagsByPaths}
use Rattle.meaning_reports.specs.PackageReports.{IsFileFinding, IsFileOf, IsKeptIn, SaysByPaths}
use Rattle.meaning_reports.specs.UsedImports.{HandsThere}
use Rattle.meaning_reports.specs.WholeFaults.{HasNoWholeFault}
use Rattle.report.specs.Entries.{Entry}
use Rattle.silent_files.specs.SilentPackages.{MayBeSkipped}

-- whether the file of that number is walked, by marks of files: it is where it has none
abbrev pub is_walked : List Bool → ℕ → Bool
is_walked marks number = unwrap_or (slice_get marks number) true

-- a file as it is seen, or as if it had no marks
abbrev pub seen_if : Bool → Known → SourceFile → Seen
seen_if true known tree = seen_file known tree
seen_if false known tree = seen_in known []

-- each of these, where the first has the number `n`, and those are walked of these numbers
abbrev pub seen_some : (ℕ → Bool) → (ℕ → Known) → ℕ → List SourceFile → List Seen
seen_some walked known n [] = []
seen_some walked known n (tree ∷ trees) =
    seen_if (walked n) (known n) tree ∷ seen_some walked known (n + 1) trees

abbrev pub walked_files : List LoadedPackage → Tables → LoadedPackage → (ℕ → Bool) → List Seen
walked_files ps tables p walked = seen_some walked (known_in ps tables p) 0 (trees_of p)

-- each file that isn't walked may be skipped
pub record SkipsSilent (ps : List LoadedPackage) (tables : Tables) (p : LoadedPackage) (walked : ℕ → Bool)
    : Type 0 where
  pub may_be : (n : ℕ) (tree : SourceFile)
      → slice_get (trees_of p) n ≡ Some tree
      → walked n ≡ false
      → MayBeSkipped ps tables p n tree

-- these are the walked files of a package without a fault as a whole, with their full credits, and the most flags by
-- them
pub record AreWalked
    (ps : List LoadedPackage) (tables : Tables) (i : ℕ) (p : LoadedPackage) (walked : ℕ → Bool)
    (files : List FileWithCredits) (flags : Flags)
    : Type 0 where
  pub skip_silent : SkipsSilent ps tables p walked
  pub is_package : slice_get ps i ≡ Some p
  pub has_no_whole_fault : HasNoWholeFault ps i
  pub are_files : AreCredited (walked_files ps tables p walked) files
  pub are_flags : AreMost files (imported_flags p tables) flags

-- it is to be said of one of these files
pub record IsSaidOf (files : List FileWithCredits) (calls : Callee → ℕ → Bool) (x : Entry) : Type 0 where
  pub number : ℕ
  pub file : FileWithCredits
  pub is_file : slice_get files number ≡ Some file
  pub is_finding : IsFileFinding calls number file x

-- one of these files hands something to the function
pub record HandOver (files : List Seen) (f : Callee) : Type 0 where
  pub file : Seen
  pub is_file : Contains files file
  pub hands : HandsThere file f

-- one of these files keeps in the field what it obtained
pub record IsKeptAmong (files : List Seen) (field : List ℕ) : Type 0 where
  pub file : Seen
  pub is_file : Contains files file
  pub is_kept : Contains (fields_kept file) field

pub record WalkedFilesAreEnough : Type 0 where
  -- all that files keep in fields is found in those that are walked
  pub keeping : (ps : List LoadedPackage) (tables : Tables) (p : LoadedPackage) (walked : ℕ → Bool) (field : List ℕ)
      → SkipsSilent ps tables p walked
      → IsKeptAmong (walked_files ps tables p walked) field ↔ IsKeptIn ps tables p field
  -- all that files hand on is found in those that are walked
  pub hand_over : (ps : List LoadedPackage) (tables : Tables) (p : LoadedPackage) (walked : ℕ → Bool) (f : Callee)
      → SkipsSilent ps tables p walked
      → HandOver (walked_files ps tables p walked) f ↔ HandOver (seen_files ps tables p) f
  pub all : (ps : List LoadedPackage) (tables : Tables) (p : LoadedPackage) (walked : ℕ → Bool)
      → ((n : ℕ) → walked n ≡ true)
      → walked_files ps tables p walked ≡ seen_files ps tables p
  pub flags : (ps : List LoadedPackage) (tables : Tables) (i : ℕ) (p : LoadedPackage) (walked : ℕ → Bool)
      (files : List FileWithCredits) (flags : Flags)
      → AreWalked ps tables i p walked files flags
      → AreFlagsByPaths ps tables i p flags
  pub says : (ps : List LoadedPackage) (tables : Tables) (i : ℕ) (p : LoadedPackage) (walked : ℕ → Bool)
      (files : List FileWithCredits) (flags : Flags)
      → AreWalked ps tables i p walked files flags
      → (x : Entry)
      → IsSaidOf files (calls_by flags (imported_flags p tables)) x ↔ SaysByPaths ps tables i x
  -- one of a body of which a variable is followed is the package's own
  pub own : (ps : List LoadedPackage) (tables : Tables) (i : ℕ) (p : LoadedPackage) (walked : ℕ → Bool)
      (files : List FileWithCredits) (flags : Flags)
      → AreWalked ps tables i p walked files flags
      → (n : ℕ) (file : FileWithCredits) (body : ℕ) (v : Variable)
      → slice_get files n ≡ Some file
      → Contains (variables_of file.seen body) v
      → IsFileOf ps tables i flags n file
