-- The tables of packages: for each function what its signature says, and which of its parameters it is known to call;
-- and whether there is anything tracked in them.
-- A package with a fault of the whole package has an empty table. Which flags another one has, a rule says; by paths
-- they are the most consistent ones. These rely on the tables of the packages that the package imports; so there is one
-- way to give tables to packages of which no chain of imports meets one twice.
use Rattle.std.specs.Prelude.{ℕ, ◌≡◌, ◌||◌, Bool, false, List, [], ◌∷◌, Option, None, Some, slice_get}
use Rattle.std.specs.List.{list_any}
use Rattle.meaning.specs.OuterBlocks.{has_any}
use Rattle.meaning.specs.FunctionFacts.{FunctionFacts}
use Rattle.meaning.specs.TwoFunctions.{function_names_from}
use Rattle.meaning.specs.Uses.{Seen}
use Rattle.meaning_packages.specs.Credits.{AreFullCredits}
use Rattle.meaning_packages.specs.CallsFlags.{Flags, FileWithCredits, AreMost}
use Rattle.meaning_reports.specs.Loaded.{LoadedPackage, PackageTable, Tables, trees_of, imported_flags, signatures_of, seen_files}
use Rattle.meaning_reports.specs.WholeFaults.{HasNoWholeFault, IsWholeFault}
use Rattle.report.specs.Entries.{Entry}

-- the signature has a parameter or a result that is tracked
abbrev pub tells : Option FunctionFacts → Bool
tells None = false
tells (Some f) = has_any f.parameters || has_any f.gives

-- that of some function of the package does
abbrev pub tells_of : List LoadedPackage → LoadedPackage → Bool
tells_of ps p = list_any (λ f. tells (signatures_of ps p f.name.text)) (function_names_from 0 (trees_of p))

pub record IsEmpty (table : PackageTable) : Type 0 where
  pub no_signature : (name : List ℕ) → table.signatures name ≡ None
  pub no_flag : (name : List ℕ) (k : ℕ) → table.calls name k ≡ false
  pub not_told : table.is_told ≡ false

-- By any rule

-- which flags the package at that place has, if it has no fault of the whole package
abbrev pub FlagsRule : Type 1
FlagsRule = List LoadedPackage → Tables → ℕ → LoadedPackage → Flags → Type 0

-- the table of the package
pub data IsTableBy
    (are_flags : FlagsRule) (ps : List LoadedPackage) (tables : Tables) (i : ℕ) (p : LoadedPackage)
    (table : PackageTable)
    : Type 0 where
  empty : (x : Entry) → IsWholeFault ps i x → IsEmpty table → IsTableBy are_flags ps tables i p table
  full : (flags : Flags)
      → HasNoWholeFault ps i
      → are_flags ps tables i p flags
      → ((name : List ℕ) → table.signatures name ≡ signatures_of ps p name)
      → ((name : List ℕ) (k : ℕ) → table.calls name k ≡ flags name k)
      → table.is_told ≡ tells_of ps p
      → IsTableBy are_flags ps tables i p table

-- Each given package has its table under its path. Another path has what is declared of its package: nothing, where
-- nothing is declared of it.
pub record AreTablesBy (are_flags : FlagsRule) (declared : Tables) (ps : List LoadedPackage) (tables : Tables)
    : Type 0 where
  pub of_package : (i : ℕ) (p : LoadedPackage)
      → slice_get ps i ≡ Some p
      → IsTableBy are_flags ps tables i p (tables p.path)
  pub of_others : (path : List ℕ)
      → ((i : ℕ) (p : LoadedPackage) → slice_get ps i ≡ Some p → p.path ≡ path → ⊥)
      → tables path ≡ declared path

-- By paths

-- each file with its full credits
pub data AreCredited : List Seen → List FileWithCredits → Type 0 where
  no_file : AreCredited [] []
  file_and : {seen : Seen} {rest : List Seen} {file : FileWithCredits} {files : List FileWithCredits}
      → file.seen ≡ seen
      → AreFullCredits seen file.credits
      → AreCredited rest files
      → AreCredited (seen ∷ rest) (file ∷ files)

-- a package without a fault of the whole package: its files with their credits, and its flags
pub record IsJudged
    (ps : List LoadedPackage) (tables : Tables) (i : ℕ) (p : LoadedPackage)
    (files : List FileWithCredits) (flags : Flags)
    : Type 0 where
  pub is_package : slice_get ps i ≡ Some p
  pub has_no_whole_fault : HasNoWholeFault ps i
  pub are_files : AreCredited (seen_files ps tables p) files
  pub are_flags : AreMost files (imported_flags p tables) flags

-- the flags by which it is judged
pub record AreFlagsByPaths (ps : List LoadedPackage) (tables : Tables) (i : ℕ) (p : LoadedPackage) (flags : Flags)
    : Type 0 where
  pub files : List FileWithCredits
  pub is_judged : IsJudged ps tables i p files flags

abbrev pub IsTable : List LoadedPackage → Tables → ℕ → LoadedPackage → PackageTable → Type 0
IsTable = IsTableBy AreFlagsByPaths

abbrev pub AreTables : Tables → List LoadedPackage → Tables → Type 0
AreTables declared = AreTablesBy AreFlagsByPaths declared
