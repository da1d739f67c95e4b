-- What serves the proofs: certificates that are made of packages that were judged, one after the other.
use Rattle.std.specs.Prelude.{ℕ, ◌+◌, ◌≡◌, List, [], ◌∷◌, ◌++◌, length, Some, slice_get, ⊤}
use Rattle.one_package.specs.Certified.{certificates_in}
use Rattle.one_package.specs.Judgments.{table_view}
use Rattle.plain_tables.specs.Tables.{IsPlain}
use Rattle.one_package.specs.declared.judged.Judged.{Judged}
use Rattle.certificate_json.specs.Certificates.{PackageEntry}
use Rattle.meaning_reports.specs.Loaded.{LoadedPackage, Tables}
use Rattle.meaning_reports.specs.PackageTables.{IsTable}
use Rattle.table_json.specs.Tables.{Entry}
use Rattle.whole_packages.specs.LoadedViews.{TellsPackage}
use Rattle.whole_packages.specs.declared.loaded_package.LoadedPackage.{LoadedPackage as KeptPackage}

-- they are what the table of the package says that is kept at that place
abbrev pub AreFactsAt : List KeptPackage → ℕ → Judged → List Entry → Type 0
AreFactsAt kept place judged facts = (k : KeptPackage) (ps : List LoadedPackage) (tables : Tables) (i : ℕ)
    (p : LoadedPackage)
    → slice_get kept place ≡ Some k
    → TellsPackage p k
    → IsTable ps tables i p (table_view judged)
    → IsPlain (table_view judged) facts

-- it is made of what was judged of the package that is kept at that place
pub record IsMadeAt (kept : List KeptPackage) (place : ℕ) (judged : Judged) (entry : PackageEntry) : Type 0 where
  pub is_path : entry.path ≡ judged.report.path.now
  pub are_bodies : entry.bodies ≡ certificates_in judged
  pub are_facts : AreFactsAt kept place judged entry.facts

-- one that is made of the next package was added
pub record AddsPackage (kept : List KeptPackage) (judged : Judged) (before after : List PackageEntry) : Type 0 where
  pub added : PackageEntry
  pub is_made : IsMadeAt kept (length before) judged added
  pub is_sum : after ≡ before ++ added ∷ []

-- each of these has its own, where the first has the place `n`
abbrev pub AreMadeFrom : List KeptPackage → ℕ → List Judged → List PackageEntry → Type 0
AreMadeFrom kept n [] [] = ⊤
AreMadeFrom kept n [] (e ∷ es) = ⊥
AreMadeFrom kept n (j ∷ js) [] = ⊥
AreMadeFrom kept n (j ∷ js) (e ∷ es) = IsMadeAt kept n j e × AreMadeFrom kept (n + 1) js es
