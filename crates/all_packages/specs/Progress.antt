-- What serves the proofs: what is known while packages are judged one after another.
use Rattle.std.specs.Prelude.{ℕ, ◌≡◌, true, List, [], ◌∷◌, length, Option, Some, None, option_map, is_some, slice_get, slice_index_or, Contains}
use Rattle.imports.specs.Ranks.{HasRank, Imports}
use Rattle.imports.specs.Settling.{given_imports}
use Rattle.whole_packages.specs.declared.loaded_package.LoadedPackage.{LoadedPackage as KeptPackage}
use Rattle.meaning_reports.specs.Loaded.{LoadedPackage, PackageTable, Tables, import_list, no_table}
use Rattle.meaning_reports.specs.PackageReports.{Rules}
use Rattle.gathering.specs.Results.{Results, AreResults}
use Rattle.one_package.specs.Certified.{CertificateRule, AreCertified}
use Rattle.one_package.specs.Judgments.{TellsSources, said_view}
use Rattle.one_package.specs.Results.{table_or}
use Rattle.one_package.specs.declared.judged.Judged.{Judged}
use Rattle.all_packages.specs.declared.progress.Progress.{Progress as KeptProgress}

-- what is said of each package that was judged, by its place
abbrev pub Slots : Type 0
Slots = List (Option Judged)

abbrev pub slot_at : Slots → ℕ → Option Judged
slot_at slots i = slice_index_or slots i None

-- what was judged, in the order of the places
abbrev pub judged_of : Slots → List Judged
judged_of [] = []
judged_of (None ∷ slots) = judged_of slots
judged_of (Some j ∷ slots) = j ∷ judged_of slots

abbrev pub results_of : Slots → Results
results_of slots i = option_map said_view (slot_at slots i)

-- each is a result with its certificates, and names the path and the sources of its package
pub record AreRight
    (rules : Rules) (rule : CertificateRule) (ps : List LoadedPackage) (kept : List KeptPackage) (slots : Slots)
    : Type 0 where
  pub are_results : AreResults rules ps (results_of slots)
  pub are_told : (i : ℕ) (p : LoadedPackage) (k : KeptPackage) (j : Judged)
      → slice_get ps i ≡ Some p
      → slice_get kept i ≡ Some k
      → slot_at slots i ≡ Some j
      → TellsSources k j
  pub are_certified : (i : ℕ) (p : LoadedPackage) (j : Judged)
      → slice_get ps i ≡ Some p
      → slot_at slots i ≡ Some j
      → AreCertified rules rule ps i p j
  pub are_as_many : length slots ≡ length ps

-- the places of the packages that the package of the place `i` imports
abbrev pub imports_at : List LoadedPackage → ℕ → List ℕ
imports_at ps i = slice_index_or (given_imports (import_list ps)) i []

-- the package of that place was judged
abbrev pub WasJudged : List LoadedPackage → Slots → ℕ → Type 0
WasJudged ps slots i = (p : LoadedPackage) → slice_get ps i ≡ Some p → is_some (slot_at slots i) ≡ true

-- what the package imports was judged, or has no rank
abbrev pub IsReady : List LoadedPackage → Slots → ℕ → Type 0
IsReady ps slots i = (j : ℕ) → Imports (import_list ps) i j → HasRank (import_list ps) j → WasJudged ps slots j

-- the package was judged, and what was judged before still is
pub record IsNext
    (rules : Rules) (rule : CertificateRule) (ps : List LoadedPackage) (kept : List KeptPackage) (before after : Slots)
    (i : ℕ)
    : Type 0 where
  pub are_right : AreRight rules rule ps kept after
  pub is_judged : WasJudged ps after i
  pub were_judged : (n : ℕ) → is_some (slot_at before n) ≡ true → is_some (slot_at after n) ≡ true

-- all packages with a rank were judged
pub record AreRankedJudged
    (rules : Rules) (rule : CertificateRule) (ps : List LoadedPackage) (kept : List KeptPackage) (ranked : List ℕ)
    (slots : Slots)
    : Type 0 where
  pub are_right : AreRight rules rule ps kept slots
  pub were_judged : (i : ℕ) → Contains ranked i → WasJudged ps slots i

-- all packages were judged
pub record AreAllJudged
    (rules : Rules) (rule : CertificateRule) (ps : List LoadedPackage) (kept : List KeptPackage) (slots : Slots)
    : Type 0 where
  pub are_right : AreRight rules rule ps kept slots
  pub were_judged : (i : ℕ) → WasJudged ps slots i

-- The program's own

abbrev pub slots_in : KeptProgress → Slots
slots_in progress = progress.results.items

-- what is said of the package of that place, if it was judged
abbrev pub judged_in : KeptProgress → ℕ → Option Judged
judged_in progress = slot_at (slots_in progress)

-- the tables of the packages that were judged, by their places, and where there is none what is declared
abbrev pub table_there : PackageTable → Slots → Option ℕ → PackageTable
table_there declared slots None = declared
table_there declared slots (Some i) = table_or no_table (slot_at slots i)

abbrev pub tables_of : Tables → (List ℕ → Option ℕ) → Slots → Tables
tables_of declared places slots path = table_there (declared path) slots (places path)
