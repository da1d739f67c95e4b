-- What a worker keeps of a package that it judged. It is right by its type: by any tables that are right below the
-- package, whichever worker judged it and when, and whatever is judged beside it.
use Rattle.std.specs.Prelude.{ℕ, ◌≡◌, List, [], Option, Some, slice_get, slice_index_or}
use Rattle.imports.specs.Ranks.{Package}
use Rattle.imports.specs.Settling.{given_imports}
use Rattle.imports.specs.Views.{packages_view, rank_of}
use Rattle.whole_packages.specs.declared.loaded_package.LoadedPackage.{LoadedPackage as KeptPackage}
use Rattle.whole_packages.specs.LoadedViews.{HaveDistinctPaths, TellPackages}
use Rattle.meaning_reports.specs.Loaded.{LoadedPackage, Tables}
use Rattle.meaning_reports.specs.PackageReports.{Rules}
use Rattle.gathering.specs.Results.{IsResult}
use Rattle.given_packages.specs.declared.given.Given.{Given}
use Rattle.one_package.specs.declared.judged.Judged.{Judged}
use Rattle.one_package.specs.Certified.{CertificateRule, AreCertified}
use Rattle.one_package.specs.Judgments.{TellsSources}
use Rattle.given_packages.specs.Given.{TellsGiven}
use Rattle.one_package.specs.Judgments.{said_view}

-- Of one package

-- What is said is right of the package of that place, whichever packages of different paths are kept so: it has the
-- path and the sources of that package, it is a result of it by these rules, and its certificates are those of that
-- package. A result and certificates are right by any tables that are right below the package.
pub record IsRight
    (rules : Rules) (rule : CertificateRule) (kept : List KeptPackage) (place : ℕ) (judged : Judged)
    : Type 0 where
  pub are_sources : (k : KeptPackage) → slice_get kept place ≡ Some k → TellsSources k judged
  pub is_result : (ps : List LoadedPackage) (p : LoadedPackage)
      → TellPackages ps kept
      → HaveDistinctPaths ps
      → slice_get ps place ≡ Some p
      → IsResult rules ps place p (said_view judged)
  pub is_certified : (ps : List LoadedPackage) (p : LoadedPackage)
      → TellPackages ps kept
      → HaveDistinctPaths ps
      → slice_get ps place ≡ Some p
      → AreCertified rules rule ps place p judged

-- What contracts see of a worker's result: the place of its package, and what is said of it. The type of the result
-- says that this is right.
pub record Kept : Type 0 where
  pub place : ℕ
  pub judged : Judged

abbrev pub place_of : Kept → ℕ
place_of k = k.place

abbrev pub judged_of : Kept → Judged
judged_of k = k.judged

-- What a type names

-- A type names the packages that were given, their ranks, and what is right of each by these rules, where this is
-- declared of packages that were not given.
pub record IsNamed
    (declared : Tables) (rules : Rules) (rule : CertificateRule) (given : Given) (packages : List Package)
    (rank : ℕ → Option ℕ) (told : ℕ → Judged → Type 0)
    : Type 0 where
  pub are_packages : packages_view given.lists.items ≡ packages
  pub is_rank : rank_of given.order ≡ rank
  pub are_given : (ps : List LoadedPackage)
      → TellPackages ps given.packages.now
      → HaveDistinctPaths ps
      → TellsGiven declared ps given
  pub makes : (place : ℕ) (judged : Judged)
      → IsRight rules rule given.packages.now place judged
      → told place judged
  pub gives : (place : ℕ) (judged : Judged)
      → told place judged
      → IsRight rules rule given.packages.now place judged

-- the places of the packages that the package of that place imports, in the order of its imports
abbrev pub imports_at : List Package → ℕ → List ℕ
imports_at packages place = slice_index_or (given_imports packages) place []
