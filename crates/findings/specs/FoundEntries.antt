-- What is found in the files of a package, part by part, as the program goes over them.
use Rattle.std.specs.Prelude.{ℕ, ◌≡◌, ◌↔◌, ◌⊎◌, Bool, List, [], map, Some, slice_get, Contains}
use Rattle.meaning.specs.Mentions.{BodyPlace}
use Rattle.meaning.specs.Uses.{Callee, UseFault}
use Rattle.meaning.specs.BodyEvents.{unfollowed_faults, body_faults}
use Rattle.meaning_packages.specs.PathFaults.{Paths, PathFault, paths_of, IsPathFault, IsPassFault}
use Rattle.meaning_packages.specs.Credits.{promises_in}
use Rattle.meaning_packages.specs.CallsFlags.{FileWithCredits}
use Rattle.report.specs.Entries.{Entry, entry_of}
use Rattle.report.specs.declared.diagnostics.Diagnostic.{Diagnostic}
use Rattle.meaning_reports.specs.PackageReports.{use_entry, path_entry, IsFileFinding}

abbrev pub use_entries : ℕ → List UseFault → List Entry
use_entries file = map (use_entry file)

abbrev pub path_entries : ℕ → List PathFault → List Entry
path_entries file = map (path_entry file)

-- exactly the entries are added that are so, in any order and each as often as it comes
abbrev pub AddsEntries : List Diagnostic → List Diagnostic → (Entry → Type 0) → Type 0
AddsEntries before after IsAdded =
    (x : Entry) → Contains (map entry_of after) x ↔ (Contains (map entry_of before) x ⊎ IsAdded x)

-- A body

-- what the body's paths and passes are, by what is known of functions
abbrev pub known_paths : (Callee → ℕ → Bool) → FileWithCredits → BodyPlace → Paths
known_paths calls file b = paths_of file.seen (promises_in calls file.credits b.at) b

-- a fault of that number's file
pub record IsEntryOf (number : ℕ) (IsFault : PathFault → Type 0) (x : Entry) : Type 0 where
  pub fault : PathFault
  pub is_fault : IsFault fault
  pub is_entry : x ≡ path_entry number fault

abbrev pub IsPassEntry : (Callee → ℕ → Bool) → ℕ → FileWithCredits → BodyPlace → Entry → Type 0
IsPassEntry calls number file b = IsEntryOf number (IsPassFault (known_paths calls file b))

abbrev pub IsPathEntry : (Callee → ℕ → Bool) → ℕ → FileWithCredits → BodyPlace → Entry → Type 0
IsPathEntry calls number file b = IsEntryOf number (IsPathFault (known_paths calls file b))

-- a body that is not followed has no fault of a path
pub record IsFollowedPathEntry
    (calls : Callee → ℕ → Bool) (number : ℕ) (file : FileWithCredits) (b : BodyPlace) (x : Entry)
    : Type 0 where
  pub is_followed : unfollowed_faults file.seen b ≡ []
  pub is_path_entry : IsPathEntry calls number file b x

abbrev pub IsBodyEntry : (Callee → ℕ → Bool) → ℕ → FileWithCredits → BodyPlace → Entry → Type 0
IsBodyEntry calls number file b x =
    (Contains (use_entries number (body_faults file.seen b.at)) x ⊎ IsPassEntry calls number file b x)
    ⊎ IsFollowedPathEntry calls number file b x

-- of one of these bodies, whatever is so of an entry of each
pub record IsOfBodies (IsOfBody : BodyPlace → Entry → Type 0) (bodies : List BodyPlace) (x : Entry) : Type 0 where
  pub body : BodyPlace
  pub is_there : Contains bodies body
  pub is_entry : IsOfBody body x

abbrev pub IsEntryOfBodies : (Callee → ℕ → Bool) → ℕ → FileWithCredits → List BodyPlace → Entry → Type 0
IsEntryOfBodies calls number file = IsOfBodies (IsBodyEntry calls number file)

-- A package

-- what is to be said of one of the files, by what is known of functions
pub record IsFoundIn (files : List FileWithCredits) (calls : Callee → ℕ → Bool) (x : Entry) : Type 0 where
  pub number : ℕ
  pub file : FileWithCredits
  pub is_file : slice_get files number ≡ Some file
  pub is_finding : IsFileFinding calls number file x
