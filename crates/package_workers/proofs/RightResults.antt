-- What is judged by results of a package's imports is right.
use Rattle.std.proofs.Common.{◌≡◌, ℕ, List, map, Some, Contains, sym, ap, ◌∙◌, subst}
use Rattle.std.specs.Prelude.{slice_get, Option}
use Rattle.std.proofs.lemmas.Option.{same_Some}
use Rattle.imports.specs.Ranks.{Package}
use Rattle.imports.specs.Views.{text_views}
use Rattle.imports.specs.declared.import_list.ImportList.{ImportList}
use Rattle.whole_packages.specs.declared.loaded_package.LoadedPackage.{LoadedPackage as KeptPackage}
use Rattle.whole_packages.specs.LoadedViews.{TellsPackage}
use Rattle.meaning_reports.specs.Loaded.{LoadedPackage, Tables, import_list, imported_paths}
use Rattle.meaning_reports.specs.OneReport.{AreDetermined}
use Rattle.meaning_reports.specs.PackageReports.{Rules}
use Rattle.gathering.specs.Results.{FollowsFrom}
use Rattle.gathering.proofs.Results.{have_results, what_follows_is_a_result_by}
use Rattle.given_packages.specs.declared.given.Given.{Given}
use Rattle.one_package.specs.declared.judged.Judged.{Judged}
use Rattle.one_package.specs.declared.known_imports.KnownImports.{KnownImports}
use Rattle.one_package.specs.Certified.{CertificateRule, CertificatesFollow}
use Rattle.given_packages.specs.Given.{TellsGiven}
use Rattle.one_package.specs.Judgments.{TellsSources, said_view}
use Rattle.one_package.specs.Results.{results_by_path, AreImported, KnowsImports}
use Rattle.all_packages.proofs.FoundPackages.{list_so}
use Rattle.package_workers.specs.Results.{Kept, place_of, judged_of, imports_at, IsRight, IsNamed}
use Rattle.package_workers.proofs.ImportedResults.{AreRightEach, are_imported, are_results}

module _ (declared : Tables) (rules : Rules) (rule : CertificateRule) (given : Given) (loaded : KeptPackage)
    (imports : KnownImports) (judged : Judged) where
  -- what follows from what is known of a package's imports is said of it
  abbrev pub SaysWhatFollows : Type 0
  SaysWhatFollows = (ps : List LoadedPackage) (i : ℕ) (p : LoadedPackage) (js : List Judged) → TellsGiven declared ps given
      → slice_get ps i ≡ Some p
      → TellsPackage p loaded
      → KnowsImports given (imported_paths p) js imports
      → AreImported ps i js
      → FollowsFrom rules ps i p (results_by_path ps js) (said_view judged)

  -- and so do its certificates
  abbrev pub HasWhatFollows : Type 0
  HasWhatFollows = (ps : List LoadedPackage) (i : ℕ) (p : LoadedPackage) (js : List Judged) → TellsGiven declared ps given
      → slice_get ps i ≡ Some p
      → TellsPackage p loaded
      → KnowsImports given (imported_paths p) js imports
      → AreImported ps i js
      → CertificatesFollow rules rule ps i p (results_by_path ps js) judged

module _ (declared : Tables) (rules : Rules) (rule : CertificateRule) (determined : AreDetermined rules.are_flags)
    (given : Given) (packages : List Package) (rank : ℕ → Option ℕ) (told : ℕ → Judged → Type 0)
    (named : IsNamed declared rules rule given packages rank told) (place : ℕ) (loaded : KeptPackage) (list : ImportList)
    (ks : List Kept) (is_loaded : slice_get given.packages.now place ≡ Some loaded)
    (is_list : slice_get given.lists.items place ≡ Some list) (row : map place_of ks ≡ imports_at packages place)
    (each : (k : Kept) → Contains ks k → told k.place k.judged) (imports : KnownImports)
    (knows : KnowsImports given (text_views list.imports.items) (map judged_of ks) imports) where
  right_each : AreRightEach rules rule given.packages.now ks
  right_each k h = named.gives k.place k.judged (each k h)

  row_of : (ps : List LoadedPackage) → TellsGiven declared ps given → map place_of ks ≡ imports_at (import_list ps) place
  row_of ps tells = row ∙ ap (λ ls. imports_at ls place) (sym named.are_packages ∙ tells.are_lists)

  knows_by : (ps : List LoadedPackage) (p : LoadedPackage) → TellsGiven declared ps given → slice_get ps place ≡ Some p
      → KnowsImports given (imported_paths p) (map judged_of ks) imports
  knows_by ps p tells is =
      subst (λ paths. KnowsImports given paths (map judged_of ks) imports) (list_so declared ps given tells place p is list is_list)
      knows

  judged_right : (judged : Judged)
      → TellsSources loaded judged
      → SaysWhatFollows declared rules rule given loaded imports judged
      → HasWhatFollows declared rules rule given loaded imports judged
      → IsRight rules rule given.packages.now place judged
  judged_right judged sources says has = record {
    are_sources = λ k is. subst (λ l. TellsSources l judged) (same_Some loaded k (sym is_loaded ∙ is)) sources;
    is_result = λ ps p tell distinct is.
        let tells = named.are_given ps tell distinct in
        let own = row_of ps tells in
        what_follows_is_a_result_by rules determined ps place p (results_by_path ps (map judged_of ks)) (said_view judged) is
        (are_results rules rule given.packages.now ks right_each ps tell place own distinct)
        (says ps place p (map judged_of ks) tells is (tell.each place p loaded is is_loaded) (knows_by ps p tells is)
        (are_imported rules rule given.packages.now ks right_each ps tell place own));
    is_certified = λ ps p tell distinct is tables below.
        let tells = named.are_given ps tell distinct in
        let own = row_of ps tells in
        has ps place p (map judged_of ks) tells is (tell.each place p loaded is is_loaded) (knows_by ps p tells is)
        (are_imported rules rule given.packages.now ks right_each ps tell place own)
        tables (have_results rules determined ps tables place (results_by_path ps (map judged_of ks)) below
        (are_results rules rule given.packages.now ks right_each ps tell place own distinct));
  }

  -- by the names of a type
  pub judged_told : (judged : Judged)
      → TellsSources loaded judged
      → SaysWhatFollows declared rules rule given loaded imports judged
      → HasWhatFollows declared rules rule given loaded imports judged
      → told place judged
  judged_told judged sources says has = named.makes place judged (judged_right judged sources says has)
