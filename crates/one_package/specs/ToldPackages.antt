-- What the program keeps of a package that was told of, of its bodies, and of what was found in it, and what it stands
-- for.
use Rattle.std.specs.Prelude.{ℕ, ◌≡◌, ◌↔◌, Bool, true, false, List, map, Option, None, Some, Contains, ⊤}
use Rattle.facts.specs.FactViews.{facts_by_name}
use Rattle.called_parameters.specs.Called.{is_called}
use Rattle.calls_flags.specs.ToldFiles.{TellAllSeen}
use Rattle.imports.specs.Views.{text_views}
use Rattle.keeping.specs.declared.fields.FieldNames.{FieldNames}
use Rattle.meaning.specs.Tracked.{Fields, these_fields}
use Rattle.calls_flags.specs.FilesBodies.{HaveBodies, with_all_credits}
use Rattle.meaning_packages.specs.CallsFlags.{FileWithCredits, AreMost}
use Rattle.meaning_reports.specs.Loaded.{LoadedPackage, Tables, imported_flags, keeping_in, signatures_of}
use Rattle.meaning_reports.specs.PackageReports.{Rules, IsFindingBy, SaysByPaths}
use Rattle.meaning_reports.specs.PackageTables.{tells_of, AreFlagsByPaths}
use Rattle.meaning_reports.specs.WholeFaults.{IsWholeFault, HasNoWholeFault}
use Rattle.report.specs.Entries.{Entry, entry_of}
use Rattle.silent_files.specs.SilentPackages.{GiveNone}
use Rattle.silent_files.specs.WalkedFiles.{walked_files, SkipsSilent}
use Rattle.one_package.specs.declared.grounds.Grounds.{Grounds}
use Rattle.one_package.specs.declared.grounds.Grounds.TheVariants.{WholeFaults, Told}
use Rattle.one_package.specs.declared.told_package.ToldPackage.{ToldPackage}
use Rattle.one_package.specs.declared.told_package.PackageBodies.{PackageBodies}
use Rattle.one_package.specs.declared.by_paths.JudgedBodies.{JudgedBodies}
use Rattle.one_package.specs.declared.file_rules.FoundFiles.{FoundFiles}
use Rattle.one_package.specs.declared.judged.FoundPackage.{FoundPackage}

-- it is marked as one that may have a giver, unless none of its functions gives a cancel function
abbrev pub IsMarked : ToldPackage → Type 0
IsMarked told = told.gives ≡ false → GiveNone (facts_by_name told.signatures)

abbrev pub fields_view : FieldNames → Fields
fields_view fields = these_fields (text_views fields.keeping.items) (text_views fields.filled.items)

-- What is kept are the signatures of its functions, whether these have anything that is tracked, which of its fields
-- keep, and what was told of its files as they were seen. Of files that may be skipped nothing need be told, unless all
-- have to be.
pub record IsToldPackage
    (ps : List LoadedPackage) (tables : Tables) (p : LoadedPackage) (tells_all : Bool) (told : ToldPackage)
    : Type 0 where
  pub walked : ℕ → Bool
  pub are_signatures : (name : List ℕ) → facts_by_name told.signatures name ≡ signatures_of ps p name
  pub is_told : told.is_told ≡ tells_of ps p
  pub are_fields : fields_view told.fields ≡ keeping_in ps tables p
  pub are_files : TellAllSeen (walked_files ps tables p walked) told.files.items
  pub skip_silent : SkipsSilent ps tables p walked
  pub all : tells_all ≡ true → (n : ℕ) → walked n ≡ true

-- what was told of the package and of all its files, if it has no fault as a whole
abbrev pub IsToldIf : List LoadedPackage → Tables → ℕ → LoadedPackage → Option ToldPackage → Type 0
IsToldIf ps tables i p None = (x : Entry) × IsWholeFault ps i x
IsToldIf ps tables i p (Some told) = HasNoWholeFault ps i × IsToldPackage ps tables p true told

-- these are its faults as a whole, and there are some
pub record AreWholeFaults (ps : List LoadedPackage) (i : ℕ) (entries : List Entry) : Type 0 where
  pub each : (x : Entry) → Contains entries x ↔ IsWholeFault ps i x
  pub one : (x : Entry) × IsWholeFault ps i x

-- by this a package is judged: its faults as a whole, or what was told of it where it has none
abbrev pub AreGrounds : List LoadedPackage → Tables → ℕ → LoadedPackage → Bool → Grounds → Type 0
AreGrounds ps tables i p tells_all (WholeFaults faults) = AreWholeFaults ps i (map entry_of faults.items)
AreGrounds ps tables i p tells_all (Told told) = HasNoWholeFault ps i × IsToldPackage ps tables p tells_all told

-- what was told of a package is marked
abbrev pub AreMarkedGrounds : Grounds → Type 0
AreMarkedGrounds (WholeFaults faults) = ⊤
AreMarkedGrounds (Told told) = IsMarked told

-- its files with their credits, where these are walked
abbrev pub files_of : List LoadedPackage → Tables → LoadedPackage → (ℕ → Bool) → PackageBodies → List FileWithCredits
files_of ps tables p walked bodies = with_all_credits (walked_files ps tables p walked) bodies.files.items

-- what is kept are the bodies of its files, where these are walked, and the most flags that are consistent
pub record HasPackageBodies
    (ps : List LoadedPackage) (tables : Tables) (p : LoadedPackage) (walked : ℕ → Bool) (bodies : PackageBodies)
    : Type 0 where
  pub are_bodies : HaveBodies (walked_files ps tables p walked) bodies.files.items
  pub are_flags : AreMost (files_of ps tables p walked bodies) (imported_flags p tables) (is_called bodies.called)

-- what is kept are the bodies of its files, where these are walked, what paths say of all its files, and the flags that
-- it has by them
pub record AreJudgedBodies
    (ps : List LoadedPackage) (tables : Tables) (i : ℕ) (p : LoadedPackage) (walked : ℕ → Bool) (bodies : JudgedBodies)
    : Type 0 where
  pub are_bodies : HaveBodies (walked_files ps tables p walked) bodies.files.items
  pub are_flags : AreFlagsByPaths ps tables i p (is_called bodies.called)
  pub each : (x : Entry) → Contains (map entry_of bodies.diagnostics.items) x ↔ SaysByPaths ps tables i x

-- what was found is what the rules say of the package's files, and the flags that it has by them
pub record AreFoundFiles
    (rules : Rules) (ps : List LoadedPackage) (tables : Tables) (i : ℕ) (p : LoadedPackage) (found : FoundFiles)
    : Type 0 where
  pub are_flags : rules.are_flags ps tables i p (is_called found.called)
  pub each : (x : Entry) → Contains (map entry_of found.diagnostics.items) x ↔ rules.says ps tables i x

-- what was found is what is to be said of the package, and its flags
pub record IsFoundPackage
    (rules : Rules) (ps : List LoadedPackage) (tables : Tables) (i : ℕ) (p : LoadedPackage) (found : FoundPackage)
    : Type 0 where
  pub are_flags : rules.are_flags ps tables i p (is_called found.called)
  pub each : (x : Entry) → Contains (map entry_of found.diagnostics.items) x ↔ IsFindingBy rules ps tables i x
