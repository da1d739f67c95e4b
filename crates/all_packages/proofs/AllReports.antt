-- Before the first package is judged, and after the last.
use Rattle.std.proofs.Common.{◌≡◌, ℕ, zero, suc, ◌<◌, true, List, [], ◌∷◌, map, length, replicate, Option, Some, None, option_map, is_some, refl, sym, ap, ◌∙◌, subst, arith}
use Rattle.std.specs.Prelude.{slice_get}
use Rattle.std.proofs.lemmas.Bool.{false≢true}
use Rattle.std.proofs.lemmas.List.{length-map, length-replicate}
use Rattle.std.proofs.lemmas.Option.{none-some, same_Some, slice_get-map}
use Rattle.imports.specs.Ranks.{Package}
use Rattle.imports.specs.Settling.{place_from}
use Rattle.imports.proofs.GivenImports.{first_there, there_first}
use Rattle.whole_packages.specs.declared.loaded_package.LoadedPackage.{LoadedPackage as KeptPackage}
use Rattle.whole_packages.specs.LoadedViews.{HaveDistinctPaths, TellPackages}
use Rattle.meaning_reports.proofs.ImportsOf.{list_item, in_lists, given_in_lists}
use Rattle.meaning_reports.specs.Loaded.{LoadedPackage, Tables, import_list, no_table}
use Rattle.meaning_reports.specs.OneReport.{AreDetermined}
use Rattle.meaning_reports.specs.PackageReports.{Rules, Said}
use Rattle.gathering.specs.Results.{IsNotGiven, AreOfAll, AreTablesOf, HaveTables}
use Rattle.gathering.proofs.Gathered.{results_say_the_tables_by}
use Rattle.declared_tables.specs.DeclaredTables.{declared_view}
use Rattle.imports.specs.Views.{at_path}
use Rattle.given_packages.specs.declared.given.Given.{Given}
use Rattle.one_package.specs.declared.judged.Judged.{Judged}
use Rattle.given_packages.specs.Given.{TellsGiven}
use Rattle.one_package.specs.Certified.{CertificateRule}
use Rattle.all_packages.specs.Reports.{AreAllCertified, AreReportsBy}
use Rattle.all_packages.specs.Progress.{Slots, slot_at, judged_of, results_of, table_there, tables_of, AreRight, AreAllJudged}
use Rattle.one_package.specs.Judgments.{said_view}
use Rattle.one_package.specs.Results.{table_or}
use Rattle.all_packages.proofs.KeptPackages.{package_of, is_within}

-- Nothing was judged

all_none : (n i : ℕ) → slot_at (replicate n None) i ≡ None
all_none zero i = refl
all_none (suc n) zero = refl
all_none (suc n) (suc i) = all_none n i

pub none_right : (rules : Rules) (rule : CertificateRule) (ps : List LoadedPackage) (kept : List KeptPackage) (slots : Slots)
    (count : ℕ)
    → slots ≡ replicate count None
    → count ≡ length ps
    → AreRight rules rule ps kept slots
none_right rules rule ps kept slots count same as_many = record {
  are_results = λ i p said is found. absurd (none-some said (sym (ap (option_map said_view) (none i)) ∙ found));
  are_told = λ i p k j is is_k e. absurd (none-some j (sym (none i) ∙ e));
  are_certified = λ i p j is e. absurd (none-some j (sym (none i) ∙ e));
  are_as_many = ap length same ∙ (length-replicate count None ∙ as_many);
}
  where
    none : (i : ℕ) → slot_at slots i ≡ None
    none i = ap (λ (s : Slots). slot_at s i) same ∙ all_none count i

-- The tables of all packages

-- a value that is there is there when it is seen in another way
still_some : (o : Option Judged) → is_some o ≡ true → is_some (option_map said_view o) ≡ true
still_some None e = e
still_some (Some j) e = refl

module _ (rules : Rules) {rule : CertificateRule} (ps : List LoadedPackage) (kept : List KeptPackage) (slots : Slots)
    (all : AreAllJudged rules rule ps kept slots) (places : List ℕ → Option ℕ)
    (are_places : (path : List ℕ) → places path ≡ place_from path (import_list ps) 0)
    (declared : Tables) (are_declared : (path : List ℕ) → declared path ≡ rules.declared path) where
  abbrev tables : Tables
  tables = tables_of declared places slots

  of_all : AreOfAll ps (results_of slots)
  of_all i low = by (slice_get ps i) refl
    where
      by : (o : Option LoadedPackage) → slice_get ps i ≡ o → is_some (results_of slots i) ≡ true
      by None none = absurd (is_within ps i low none)
      by (Some p) is = still_some (slot_at slots i) (all.were_judged i p is)

  module _ (distinct : HaveDistinctPaths ps) where
    place_is : (i : ℕ) (p : LoadedPackage) → slice_get ps i ≡ Some p → places p.path ≡ Some i
    place_is i p is =
        are_places p.path ∙ there_first (import_list ps) p.path i (record {
          found = list_item ps p;
          is_found = in_lists ps i p is;
          same = refl;
          first = λ m q is_q e.
              let w = given_in_lists ps m q is_q in
              let same : m ≡ i = distinct.same m i w.0 p w.1 is (ap (λ (r : Package). r.path) w.2 ∙ e) in
              omega (arith, same);
        })

    own_table : (i : ℕ) (p : LoadedPackage) (said : Said) → slice_get ps i ≡ Some p → results_of slots i ≡ Some said
        → tables p.path ≡ said.table
    own_table i p said is found =
        ap (table_there (declared p.path) slots) (place_is i p is) ∙ by (slot_at slots i) found
      where
        by : (o : Option Judged) → option_map said_view o ≡ Some said → table_or no_table o ≡ said.table
        by None bad = absurd (none-some said bad)
        by (Some j) its = ap (λ (s : Said). s.table) (same_Some (said_view j) said its)

    of_others : (path : List ℕ) → IsNotGiven ps path → tables path ≡ rules.declared path
    of_others path none = by (place_from path (import_list ps) 0) refl
      where
        by : (o : Option ℕ) → place_from path (import_list ps) 0 ≡ o → tables path ≡ rules.declared path
        by None e = ap (table_there (declared path) slots) (are_places path ∙ e) ∙ are_declared path
        by (Some k) e =
            let first = first_there (import_list ps) path k e in
            let q = given_in_lists ps k first.found first.is_found in
            absurd (none k q.0 q.1 (ap (λ (r : Package). r.path) q.2 ∙ first.same))

    have_tables : HaveTables rules.declared ps (results_of slots) tables
    have_tables = record { of_results = own_table; of_others = of_others }

    pub all_tables : AreDetermined rules.are_flags → AreTablesOf rules ps (results_of slots) tables
    all_tables determined =
        results_say_the_tables_by rules determined ps (results_of slots) tables distinct all.are_right.are_results of_all have_tables

-- so what is declared of the packages that were given is in them
tables_given : (rules : Rules) {rule : CertificateRule} (declared : Tables) (ps : List LoadedPackage) (given : Given)
    (slots : Slots)
    → rules.declared ≡ declared
    → AreDetermined rules.are_flags
    → TellsGiven declared ps given
    → HaveDistinctPaths ps
    → AreAllJudged rules rule ps given.packages.now slots
    → AreTablesOf rules ps (results_of slots) (tables_of (declared_view given.declared) (at_path given.places) slots)
tables_given rules declared ps given slots same determined tells distinct judged =
    all_tables rules ps given.packages.now slots judged (at_path given.places) tells.are_places (declared_view given.declared)
    (λ path. tells.are_declared path ∙ sym (ap (λ (d : Tables). d path) same)) distinct determined

-- The report

-- where each was judged, what was judged stands at its place
judged_there : (slots : Slots) → ((n : ℕ) → n < length slots → is_some (slot_at slots n) ≡ true) → (n : ℕ)
    → slice_get (judged_of slots) n ≡ slot_at slots n
judged_there [] each n = refl
judged_there (None ∷ slots) each n = absurd (false≢true (each 0 (omega arith)))
judged_there (Some j ∷ slots) each zero = refl
judged_there (Some j ∷ slots) each (suc n) = judged_there slots (λ m low. each (suc m) (omega (arith, low))) n

as_many_judged : (slots : Slots) → ((n : ℕ) → n < length slots → is_some (slot_at slots n) ≡ true)
    → length (judged_of slots) ≡ length slots
as_many_judged [] each = refl
as_many_judged (None ∷ slots) each = absurd (false≢true (each 0 (omega arith)))
as_many_judged (Some j ∷ slots) each = ap suc (as_many_judged slots λ m low. each (suc m) (omega (arith, low)))

-- all were judged, and are told in their order
module _ (rules : Rules) {rule : CertificateRule} (ps : List LoadedPackage) (kept : List KeptPackage)
    (tell : TellPackages ps kept) (slots : Slots) (all : AreAllJudged rules rule ps kept slots) (tables : Tables)
    (are : AreTablesOf rules ps (results_of slots) tables) where
  each_there : (n : ℕ) → n < length slots → is_some (slot_at slots n) ≡ true
  each_there n low = by (slice_get ps n) refl
    where
      by : (o : Option LoadedPackage) → slice_get ps n ≡ o → is_some (slot_at slots n) ≡ true
      by None none = let same = all.are_right.are_as_many in absurd (is_within ps n (omega (arith, low, same)) none)
      by (Some p) is = all.were_judged n p is

  result_there : (i : ℕ) → slice_get (map said_view (judged_of slots)) i ≡ results_of slots i
  result_there i =
      slice_get-map said_view (judged_of slots) i ∙ ap (option_map said_view) (judged_there slots each_there i)

  reports_here : AreReportsBy rules ps kept (judged_of slots)
  reports_here = record {
    is_report = record {
      tables = tables;
      are_tables = are.are_tables;
      is_as_long = length-map (judged_of slots) said_view ∙ (as_many_judged slots each_there ∙ all.are_right.are_as_many);
      of_package = λ i p said is found.
          let its = are.each i p said is (sym (result_there i) ∙ found) in
          record {
            is_path = its.1.is_path;
            are_findings = its.1.are_findings;
            are_fields = its.1.are_fields;
            is_table = its.0;
          };
    };
    are_told = λ i k j is_k is_j.
        let p = package_of ps kept tell i k is_k in
        all.are_right.are_told i p.meant k j p.is_there is_k (sym (judged_there slots each_there i) ∙ is_j);
  }

  pub reports_so : (found : List Judged) → found ≡ judged_of slots → AreReportsBy rules ps kept found
  reports_so found same = subst (AreReportsBy rules ps kept) (sym same) reports_here

  -- so are their certificates
  certified_here : AreAllCertified rules rule ps (judged_of slots)
  certified_here i p j is_p is_j =
      all.are_right.are_certified i p j is_p (sym (judged_there slots each_there i) ∙ is_j)

  pub certified_so : (found : List Judged) → found ≡ judged_of slots → AreAllCertified rules rule ps found
  certified_so found same = subst (AreAllCertified rules rule ps) (sym same) certified_here

-- What is given

module _ (rules : Rules) {rule : CertificateRule} (declared : Tables) (ps : List LoadedPackage) (given : Given)
    (slots : Slots) (same : rules.declared ≡ declared) (determined : AreDetermined rules.are_flags)
    (tells : TellsGiven declared ps given) (distinct : HaveDistinctPaths ps)
    (judged : AreAllJudged rules rule ps given.packages.now slots) (found : List Judged) (is : found ≡ judged_of slots) where
  pub given_reports : AreReportsBy rules ps given.packages.now found
  given_reports =
      reports_so rules ps given.packages.now tells.tell slots judged
      (tables_of (declared_view given.declared) (at_path given.places) slots)
      (tables_given rules declared ps given slots same determined tells distinct judged) found is

  pub given_certified : AreAllCertified rules rule ps found
  given_certified =
      certified_so rules ps given.packages.now tells.tell slots judged
      (tables_of (declared_view given.declared) (at_path given.places) slots)
      (tables_given rules declared ps given slots same determined tells distinct judged) found is
