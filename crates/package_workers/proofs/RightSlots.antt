-- Results that are right each by itself are right together.
use Rattle.std.proofs.Common.{◌≡◌, ℕ, List, length, Option, Some, None, option_map, refl, sym, ap, ◌∙◌, subst}
use Rattle.std.specs.Prelude.{slice_get}
use Rattle.std.proofs.lemmas.List.{length-map}
use Rattle.std.proofs.lemmas.Option.{none-some, same_Some}
use Rattle.imports.specs.Ranks.{Package}
use Rattle.imports.specs.Views.{packages_view}
use Rattle.whole_packages.specs.declared.loaded_package.LoadedPackage.{LoadedPackage as KeptPackage}
use Rattle.whole_packages.specs.LoadedViews.{HaveDistinctPaths, TellPackages}
use Rattle.meaning_reports.proofs.ImportsOf.{list_item}
use Rattle.meaning_reports.specs.Loaded.{LoadedPackage, Tables}
use Rattle.meaning_reports.specs.PackageReports.{Rules, Said}
use Rattle.gathering.specs.Results.{IsResult}
use Rattle.given_packages.specs.declared.given.Given.{Given}
use Rattle.one_package.specs.declared.judged.Judged.{Judged}
use Rattle.one_package.specs.Certified.{CertificateRule}
use Rattle.given_packages.specs.Given.{TellsGiven}
use Rattle.all_packages.specs.Progress.{Slots, slot_at, AreRight}
use Rattle.one_package.specs.Judgments.{said_view}
use Rattle.package_workers.specs.Results.{IsRight, IsNamed}

module _ (rules : Rules) (rule : CertificateRule) (kept : List KeptPackage) (slots : Slots)
    (each : (i : ℕ) (j : Judged) → slot_at slots i ≡ Some j → IsRight rules rule kept i j) (ps : List LoadedPackage)
    (tell : TellPackages ps kept) (distinct : HaveDistinctPaths ps) where
  result_there : (i : ℕ) (p : LoadedPackage) (said : Said) → slice_get ps i ≡ Some p
      → (o : Option Judged) → slot_at slots i ≡ o
      → option_map said_view o ≡ Some said
      → IsResult rules ps i p said
  result_there i p said is None e found = absurd (none-some said found)
  result_there i p said is (Some j) e found =
      subst (IsResult rules ps i p) (same_Some (said_view j) said found) ((each i j e).is_result ps p tell distinct is)

  -- as many as there are packages, of which each is right, are right
  pub slots_right : length slots ≡ length ps → AreRight rules rule ps kept slots
  slots_right as_many = record {
    are_results = λ i p said is found. result_there i p said is (slot_at slots i) refl found;
    are_told = λ i p k j is is_k e. (each i j e).are_sources k is_k;
    are_certified = λ i p j is e. (each i j e).is_certified ps p tell distinct is;
    are_as_many = as_many;
  }

-- there are as many packages as are named
pub as_many_named : (declared : Tables) (ps : List LoadedPackage) (given : Given) (packages : List Package)
    → TellsGiven declared ps given
    → packages_view given.lists.items ≡ packages
    → length packages ≡ length ps
as_many_named declared ps given packages tells same =
    ap length (sym same) ∙ (ap length tells.are_lists ∙ length-map ps (list_item ps))

-- so it is of results by the names of a type
pub named_right : (declared : Tables) (rules : Rules) (rule : CertificateRule) (given : Given) (packages : List Package)
    (rank : ℕ → Option ℕ) (told : ℕ → Judged → Type 0)
    → IsNamed declared rules rule given packages rank told
    → (slots : Slots) → length slots ≡ length packages
    → ((i : ℕ) (j : Judged) → slot_at slots i ≡ Some j → told i j)
    → (ps : List LoadedPackage) → TellsGiven declared ps given
    → HaveDistinctPaths ps
    → AreRight rules rule ps given.packages.now slots
named_right declared rules rule given packages rank told named slots as_many each ps tells distinct =
    slots_right rules rule given.packages.now slots (λ i j e. named.gives i j (each i j e)) ps tells.tell distinct
    (as_many ∙ as_many_named declared ps given packages tells named.are_packages)
