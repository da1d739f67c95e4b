-- What the report says of a package: the faults of the whole package, or else each import of a given package that isn't
-- yes and that it needs, each import with a dot that is left out, and what the rules say of its files. The rules of
-- paths say there the use faults of what stands in no body, and the faults of each body: its use faults, those of its
-- passes and those of its paths. A package is yes if there is nothing to say of it.
use Rattle.std.specs.Prelude.{ℕ, ◌≡◌, ◌↔◌, Bool, List, [], ◌∷◌, length, Some, slice_get, Contains}
use Rattle.std.specs.List.{AllPairs}
use Rattle.tree.specs.Syntax.{Identifier, ImportSpec}
use Rattle.meaning.specs.Mentions.{BodyPlace}
use Rattle.meaning.specs.Uses.{Callee, Seen, UseFault, UseCode, recover_used, goto_used, cancel_discarded, cancel_used_otherwise, group_used_otherwise, bound_again, too_many_variables}
use Rattle.meaning.specs.BodyEvents.{outer_faults, body_faults}
use Rattle.meaning.specs.KeepingFields.{fields_kept}
use Rattle.meaning_packages.specs.PathFaults.{PathFault, PathCode, overwritten, not_called, group_is_live, group_overwritten, left_to_live_group, passed_on, IsFaultOf}
use Rattle.meaning_packages.specs.Credits.{promises_in}
use Rattle.meaning.specs.BodyEvents.{bodies_of}
use Rattle.meaning_packages.specs.CallsFlags.{Flags, calls_by, FileWithCredits}
use Rattle.report.specs.declared.codes.DiagnosticCode.{DiagnosticCode}
use Rattle.report.specs.declared.codes.DiagnosticCode.TheVariants.{LeftOut, Discarded, Overwritten, NotCalled, CancelMisused, GroupIsLive, GroupOverwritten, GroupMisused, LeftToLiveGroup, BoundAgain, TooMany, ImportIsNotYes}
use Rattle.report.specs.declared.codes.TreeFault.TheVariants.{Recover, Goto}
use Rattle.report.specs.Entries.{Entry, TextPrecedes, Precedes}
use Rattle.meaning_reports.specs.Loaded.{LoadedPackage, PackageTable, Tables, imported_flags, seen_files}
use Rattle.meaning_reports.specs.WholeFaults.{ImportsAt, import_entry, IsWholeFault, HasNoWholeFault}
use Rattle.meaning_reports.specs.DotImports.{IsLeftOut, dot_entry}
use Rattle.meaning_reports.specs.UsedImports.{IsNeeded}
use Rattle.meaning_reports.specs.PackageTables.{FlagsRule, AreTablesBy, IsJudged, AreFlagsByPaths}

-- By any rules

-- what is said of the files of the package at that place, if it has no fault of the whole package
abbrev pub SayingRule : Type 1
SayingRule = List LoadedPackage → Tables → ℕ → Entry → Type 0

-- by what a package without a fault of the whole package is judged, and for each path of no given package what is
-- declared of its functions
pub record Rules : Type 1 where
  pub are_flags : FlagsRule
  pub says : SayingRule
  pub declared : Tables

pub data IsFindingBy (rules : Rules) (ps : List LoadedPackage) (tables : Tables) : ℕ → Entry → Type 0 where
  of_whole : {i : ℕ} {x : Entry} → IsWholeFault ps i x → IsFindingBy rules ps tables i x
  of_import : {i : ℕ} (j number : ℕ) (spec : ImportSpec) (x : Entry)
      → HasNoWholeFault ps i
      → ImportsAt ps i j number spec
      → IsNeeded ps tables i j spec.path
      → IsFindingBy rules ps tables j x
      → IsFindingBy rules ps tables i (import_entry number spec ImportIsNotYes)
  of_dot : {i : ℕ} (file : ℕ) (dot : Identifier)
      → HasNoWholeFault ps i
      → IsLeftOut ps tables i file dot
      → IsFindingBy rules ps tables i (dot_entry file dot)
  of_files : {i : ℕ} {x : Entry} → HasNoWholeFault ps i → rules.says ps tables i x → IsFindingBy rules ps tables i x

-- nothing is to be said of the package
abbrev pub IsYesBy : Rules → List LoadedPackage → Tables → ℕ → Type 0
IsYesBy rules ps tables i = (x : Entry) → IsFindingBy rules ps tables i x → ⊥

-- the entries are what is to be said of the package, each once, in their order
pub record AreFindingsBy (rules : Rules) (ps : List LoadedPackage) (tables : Tables) (i : ℕ) (entries : List Entry)
    : Type 0 where
  pub in_order : AllPairs Precedes entries
  pub each : (x : Entry) → Contains entries x ↔ IsFindingBy rules ps tables i x

-- a body of the package keeps in the field what it obtained
pub record IsKeptIn (ps : List LoadedPackage) (tables : Tables) (p : LoadedPackage) (field : List ℕ) : Type 0 where
  pub file : Seen
  pub is_file : Contains (seen_files ps tables p) file
  pub is_kept : Contains (fields_kept file) field

-- The fields that a verdict tells of, each once, byte by byte. Only a yes tells of fields.
pub data AreFieldsToTell (ps : List LoadedPackage) (tables : Tables) (p : LoadedPackage)
    : List Entry → List (List ℕ) → Type 0 where
  of_no : {x : Entry} {xs : List Entry} → AreFieldsToTell ps tables p (x ∷ xs) []
  of_yes : {fields : List (List ℕ)}
      → AllPairs TextPrecedes fields
      → ((field : List ℕ) → Contains fields field ↔ IsKeptIn ps tables p field)
      → AreFieldsToTell ps tables p [] fields

-- what is said of a package: its path, the findings, the fields in which it keeps cancel functions, if it is yes, and
-- its table
pub record Said : Type 0 where
  pub path : List ℕ
  pub entries : List Entry
  pub keeping : List (List ℕ)
  pub table : PackageTable

pub record IsSaid (rules : Rules) (ps : List LoadedPackage) (tables : Tables) (i : ℕ) (p : LoadedPackage) (said : Said)
    : Type 0 where
  pub is_path : said.path ≡ p.path
  pub are_findings : AreFindingsBy rules ps tables i said.entries
  pub are_fields : AreFieldsToTell ps tables p said.entries said.keeping
  pub is_table : said.table ≡ tables p.path

-- the report has for each package, in their order, what is to be said of it
pub record IsReportBy (rules : Rules) (ps : List LoadedPackage) (report : List Said) : Type 0 where
  pub tables : Tables
  pub are_tables : AreTablesBy rules.are_flags rules.declared ps tables
  pub is_as_long : length report ≡ length ps
  pub of_package : (i : ℕ) (p : LoadedPackage) (said : Said)
      → slice_get ps i ≡ Some p
      → slice_get report i ≡ Some said
      → IsSaid rules ps tables i p said

-- By paths

abbrev pub use_code : UseCode → DiagnosticCode
use_code recover_used = LeftOut Recover
use_code goto_used = LeftOut Goto
use_code cancel_discarded = Discarded
use_code cancel_used_otherwise = CancelMisused
use_code group_used_otherwise = GroupMisused
use_code bound_again = BoundAgain
use_code too_many_variables = TooMany

abbrev pub path_code : PathCode → DiagnosticCode
path_code overwritten = Overwritten
path_code not_called = NotCalled
path_code group_is_live = GroupIsLive
path_code group_overwritten = GroupOverwritten
path_code left_to_live_group = LeftToLiveGroup
path_code passed_on = CancelMisused

abbrev pub use_entry : ℕ → UseFault → Entry
use_entry file f = record { file = file; offset = f.at; code = use_code f.code; name = f.name }

abbrev pub path_entry : ℕ → PathFault → Entry
path_entry file f = record { file = file; offset = f.at; code = path_code f.code; name = f.name }

-- what is to be said of a file of that number, by what is known of functions
pub data IsFileFinding (calls : Callee → ℕ → Bool) (number : ℕ) (file : FileWithCredits) : Entry → Type 0 where
  outside_bodies : (f : UseFault)
      → Contains (outer_faults file.seen) f
      → IsFileFinding calls number file (use_entry number f)
  of_use : (b : BodyPlace) (f : UseFault)
      → Contains (bodies_of file.seen) b
      → Contains (body_faults file.seen b.at) f
      → IsFileFinding calls number file (use_entry number f)
  of_path : (b : BodyPlace) (f : PathFault)
      → Contains (bodies_of file.seen) b
      → IsFaultOf file.seen (promises_in calls file.credits b.at) b f
      → IsFileFinding calls number file (path_entry number f)

-- the file of that number of a package that is judged, in which each file has a tree
pub record IsFileOf
    (ps : List LoadedPackage) (tables : Tables) (i : ℕ) (flags : Flags) (number : ℕ) (file : FileWithCredits)
    : Type 0 where
  pub loaded : LoadedPackage
  pub files : List FileWithCredits
  pub is_judged : IsJudged ps tables i loaded files flags
  pub is_file : slice_get files number ≡ Some file

-- what is to be said of one of its files
pub record SaysByPaths (ps : List LoadedPackage) (tables : Tables) (i : ℕ) (x : Entry) : Type 0 where
  pub flags : Flags
  pub number : ℕ
  pub file : FileWithCredits
  pub is_of : IsFileOf ps tables i flags number file
  pub is_finding : IsFileFinding (calls_by flags (imported_flags is_of.loaded tables)) number file x

abbrev pub by_paths : Tables → Rules
by_paths declared = record { are_flags = AreFlagsByPaths; says = SaysByPaths; declared = declared }

abbrev pub IsReportOf : Tables → List LoadedPackage → List Said → Type 0
IsReportOf declared = IsReportBy (by_paths declared)
