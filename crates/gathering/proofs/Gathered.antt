-- Results of all packages that have a rank are right by the tables that they have. What stands below a package with a
-- rank has a lower one, so that this goes by ranks. A package without a rank has a fault of the whole package, and so an
-- empty table.
use Rattle.std.proofs.Common.{◌≡◌, ℕ, zero, suc, ◌<◌, ◌≤◌, inl, inr, List, length, Option, Some, None, is_some, refl, sym, ap, ◌∙◌, subst, arith, true≢false}
use Rattle.std.specs.Prelude.{slice_get}
use Rattle.std.proofs.lemmas.List.{length-map}
use Rattle.std.proofs.lemmas.Option.{slice_get_within, slice_get_cases}
use Rattle.imports.specs.Ranks.{Package, Chain, HasRank, ends, goes_on}
use Rattle.imports.specs.Settling.{place_from}
use Rattle.imports.proofs.GivenImports.{FirstAt, first_there, there_first}
use Rattle.meaning_reports.specs.Loaded.{LoadedPackage, HaveDistinctPaths, PackageTable, Tables, import_list, imported_paths, no_table}
use Rattle.meaning_reports.specs.PackageTables.{IsEmpty, IsTableBy, AreTablesBy, empty}
use Rattle.meaning_reports.specs.PackageReports.{Rules, Said, AreFieldsToTell, by_paths}
use Rattle.meaning_reports.specs.OneReport.{AreDetermined}
use Rattle.meaning_reports.proofs.ImportsOf.{list_item, no_place, in_lists, given_in_lists}
use Rattle.meaning_reports.proofs.OneReport.{one_finding, one_telling, flags_by_paths}
use Rattle.meaning_reports.proofs.RanksGiven.{HasOrder, has_order}
use Rattle.meaning_reports.proofs.UnrankedFaults.{unranked_fault}
use Rattle.gathering.specs.Results.{StandsBelow, IsNotGiven, AreRightBelow, Results, AreResults, AreOfRanked, AreOfAll, AreTablesOf, HaveTables}
use Rattle.gathering.specs.ResultLaws.{ResultsHaveTablesBy, ResultsHaveTables, ResultsSayTheTablesBy, ResultsSayTheTables, ResultsAreTheReportBy, ResultsAreTheReport, OneResultBy, OneResult}
use Rattle.gathering.proofs.Results.{below_each, same_table}

nothing_is_empty : IsEmpty no_table
nothing_is_empty = record { no_signature = λ name. refl; no_flag = λ name k. refl; not_told = refl }

-- The tables that results have: of each path that of the first package of this path, if it has a rank

abbrev table_in : Option Said → PackageTable
table_in None = no_table
table_in (Some said) = said.table

module _ (results : Results) (rank : ℕ → Option ℕ) where
  abbrev table_by : ℕ → Option ℕ → PackageTable
  table_by i None = no_table
  table_by i (Some r) = table_in (results i)

  abbrev table_there : PackageTable → Option ℕ → PackageTable
  table_there declared None = declared
  table_there declared (Some i) = table_by i (rank i)

module _ (declared : Tables) (ps : List LoadedPackage) (results : Results) (order : HasOrder (import_list ps)) where
  abbrev lists : List Package
  lists = import_list ps

  abbrev found_tables : Tables
  found_tables path = table_there results order.rank (declared path) (place_from path (import_list ps) 0)

  declared_of_others : (path : List ℕ) → IsNotGiven ps path → found_tables path ≡ declared path
  declared_of_others path none = by (place_from path lists 0) refl
    where
      by : (o : Option ℕ) → place_from path lists 0 ≡ o → found_tables path ≡ declared path
      by None e = ap (table_there results order.rank (declared path)) e
      by (Some k) e =
          let first = first_there lists path k e in
          let q = given_in_lists ps k first.found first.is_found in
          absurd (none k q.0 q.1 (ap (λ (r : Package). r.path) q.2 ∙ first.same))

  -- Ranks

  along : (i j r : ℕ) → Chain lists i j → order.rank i ≡ Some r → (q : ℕ) × (order.rank j ≡ Some q) × (q ≤ r)
  along i j r ends e = (r, e, omega arith)
  along i j r (goes_on {j = k} im chain) e =
      let q = order.is_order.imports_first i k r im e in
      let w = along k j q.0 chain q.1 in
      (w.0, w.1, omega (arith, w.2, q.2))

  lower : (i j r : ℕ) → StandsBelow ps i j → order.rank i ≡ Some r → (q : ℕ) × (order.rank j ≡ Some q) × (q < r)
  lower i j r below e =
      let q = order.is_order.imports_first i below.first r below.imports e in
      let w = along below.first j q.0 below.chain q.1 in
      (w.0, w.1, omega (arith, w.2, q.2))

  module _ (i : ℕ) (p : LoadedPackage) (is : slice_get ps i ≡ Some p) where
    within : i < length lists
    within = slice_get_within lists i (list_item ps p) (in_lists ps i p is)

    has_no_rank : order.rank i ≡ None → HasRank lists i → ⊥
    has_no_rank e rank = true≢false (sym ((order.is_order.ranks i).1 (within, rank)) ∙ ap is_some e)

    module _ (distinct : HaveDistinctPaths ps) where
      first_of_all : FirstAt p.path lists i
      first_of_all = record {
        found = list_item ps p;
        is_found = in_lists ps i p is;
        same = refl;
        first = λ m q is_q e.
            let w = given_in_lists ps m q is_q in
            let same : m ≡ i = distinct.same m i w.0 p w.1 is (ap (λ (r : Package). r.path) w.2 ∙ e) in
            omega (arith, same);
      }

      own_table : found_tables p.path ≡ table_by results order.rank i (order.rank i)
      own_table = ap (table_there results order.rank (declared p.path)) (there_first lists p.path i first_of_all)

      ranked_table : (r : ℕ) (said : Said) → order.rank i ≡ Some r → results i ≡ Some said → found_tables p.path ≡ said.table
      ranked_table r said e found = own_table ∙ (ap (table_by results order.rank i) e ∙ ap table_in found)

      unranked_empty : order.rank i ≡ None → IsEmpty (found_tables p.path)
      unranked_empty e = subst IsEmpty (sym (own_table ∙ ap (table_by results order.rank i) e)) nothing_is_empty

-- They are the tables of all packages

as_long : (ps : List LoadedPackage) → length (import_list ps) ≡ length ps
as_long ps = length-map ps (λ (p : LoadedPackage). record { path = p.path; imports = imported_paths p })

module _ (rules : Rules) (determined : AreDetermined rules.are_flags) (ps : List LoadedPackage) (results : Results)
    (distinct : HaveDistinctPaths ps) (are : AreResults rules ps results) (all : AreOfRanked ps results)
    (order : HasOrder (import_list ps)) where
  abbrev its_tables : Tables
  its_tables = found_tables rules.declared ps results order

  was_judged : (i r : ℕ) → order.rank i ≡ Some r → (said : Said) × (results i ≡ Some said)
  was_judged i r e = by (results i) refl
    where
      by : (o : Option Said) → results i ≡ o → (said : Said) × (results i ≡ Some said)
      by (Some said) found = (said, found)
      by None found =
          let w = (order.is_order.ranks i).0 (ap is_some e) in
          let long = as_long ps in
          absurd (true≢false (sym (all i (omega (arith, w.0, long)) w.1) ∙ ap is_some found))

  right_below : (n i r : ℕ) (p : LoadedPackage) → slice_get ps i ≡ Some p → order.rank i ≡ Some r → r < n
      → IsTableBy rules.are_flags ps its_tables i p (its_tables p.path)
  right_below zero i r p is e low = absurd (omega (arith, low))
  right_below (suc n) i r p is e low =
      let w = was_judged i r e in
      let right : AreRightBelow rules ps its_tables i = record {
        of_below = λ j q is_q below. let m = lower rules.declared ps results order i j r below e in right_below n j m.0 q is_q m.1 (omega (arith, m.2, low));
        of_others = declared_of_others rules.declared ps results order;
      } in
      subst (IsTableBy rules.are_flags ps its_tables i p) (sym (ranked_table rules.declared ps results order i p is distinct r w.0 e w.1))
      (are i p w.0 is w.1 its_tables right).is_table

  has_table : (i : ℕ) (p : LoadedPackage) → slice_get ps i ≡ Some p → IsTableBy rules.are_flags ps its_tables i p (its_tables p.path)
  has_table i p is = by (order.rank i) refl
    where
      by : (o : Option ℕ) → order.rank i ≡ o → IsTableBy rules.are_flags ps its_tables i p (its_tables p.path)
      by (Some r) e = right_below (suc r) i r p is e (omega arith)
      by None e =
          let fault = unranked_fault ps i p is (has_no_rank rules.declared ps results order i p is e) in
          empty fault.0 fault.1 (unranked_empty rules.declared ps results order i p is distinct e)

  all_tables : AreTablesBy rules.are_flags rules.declared ps its_tables
  all_tables = record { of_package = has_table; of_others = declared_of_others rules.declared ps results order }

  have_tables : AreTablesOf rules ps results its_tables
  have_tables = record {
    are_tables = all_tables;
    each = λ i p said is found.
        let its = are i p said is found its_tables (below_each rules ps its_tables all_tables i) in
        (same_table rules determined ps its_tables i p said.table (its_tables p.path) is its.is_table (has_table i p is), its);
  }

-- tables that the results say are those that are right
module _ (rules : Rules) (ps : List LoadedPackage) (results : Results) (all : AreOfAll ps results) (found tables : Tables)
    (are : AreTablesOf rules ps results found) (have : HaveTables rules.declared ps results tables) where
  same_own : (i : ℕ) (p : LoadedPackage) → slice_get ps i ≡ Some p → found p.path ≡ tables p.path
  same_own i p is = by (results i) refl
    where
      by : (o : Option Said) → results i ≡ o → found p.path ≡ tables p.path
      by (Some said) e = sym (are.each i p said is e).0 ∙ sym (have.of_results i p said is e)
      by None e = absurd (true≢false (sym (all i (slice_get_within ps i p is)) ∙ ap is_some e))

  same_tables : found ≡ tables
  same_tables = λ j path. at_path path (place_from path (import_list ps) 0) refl j
    where
      at_path : (path : List ℕ) (o : Option ℕ) → place_from path (import_list ps) 0 ≡ o → found path ≡ tables path
      at_path path None e =
          let none = λ (k : ℕ) (q : LoadedPackage) (is : slice_get ps k ≡ Some q) (its : q.path ≡ path).
          no_place path (import_list ps) 0 e k (list_item ps q) (in_lists ps k q is) its in
          are.are_tables.of_others path none ∙ sym (have.of_others path none)
      at_path path (Some k) e =
          let first = first_there (import_list ps) path k e in
          let q = given_in_lists ps k first.found first.is_found in
          let its : q.0.path ≡ path = ap (λ (r : Package). r.path) q.2 ∙ first.same in
          subst (λ (r : List ℕ). found r ≡ tables r) its (same_own k q.0 q.1)

all_there : (ps : List LoadedPackage) (report : List Said) → length report ≡ length ps → AreOfRanked ps (slice_get report)
all_there ps report long i low rank = elim (slice_get_cases report i).1 [
  | inl w ↦ ap is_some w.2
  | inr past ↦ let out = past.0 in absurd (omega (arith, low, long, out))
]

module _ (rules : Rules) (determined : AreDetermined rules.are_flags) where
  pub results_have_tables_by : ResultsHaveTablesBy rules
  results_have_tables_by ps results distinct are all =
      let order = has_order (import_list ps) in
      (found_tables rules.declared ps results order, have_tables rules determined ps results distinct are all order)

  pub results_say_the_tables_by : ResultsSayTheTablesBy rules
  results_say_the_tables_by ps results tables distinct are all have =
      let found = results_have_tables_by ps results distinct are (λ i low rank. all i low) in
      subst (AreTablesOf rules ps results) (same_tables rules ps results all found.0 tables found.1 have) found.1

  pub results_are_the_report_by : ResultsAreTheReportBy rules
  results_are_the_report_by ps report distinct long are =
      let have = results_have_tables_by ps (slice_get report) distinct are (all_there ps report long) in
      record {
        tables = have.0;
        are_tables = have.1.are_tables;
        is_as_long = long;
        of_package = λ i p said is found.
            let its = have.1.each i p said is found in
            record {
              is_path = its.1.is_path;
              are_findings = its.1.are_findings;
              are_fields = its.1.are_fields;
              is_table = its.0;
            };
      }

  pub one_result_by : OneResultBy rules
  one_result_by ps results i p one other distinct are all is its too =
      let have = results_have_tables_by ps results distinct are all in
      let right = below_each rules ps have.0 have.1.are_tables i in
      let a = its have.0 right in
      let b = too have.0 right in
      let paths : one.path ≡ other.path = a.is_path ∙ sym b.is_path in
      let entries : one.entries ≡ other.entries = one_finding rules ps have.0 i one.entries other.entries a.are_findings b.are_findings in
      let told = subst (λ es. AreFieldsToTell ps have.0 p es one.keeping) entries a.are_fields in
      let keeping : one.keeping ≡ other.keeping =
      one_telling rules ps have.0 i p other.entries one.keeping other.keeping told b.are_fields in
      let table : one.table ≡ other.table = same_table rules determined ps have.0 i p one.table other.table is a.is_table b.is_table in
      λ j. record { path = paths j; entries = entries j; keeping = keeping j; table = table j }

pub results_have_tables : ResultsHaveTables
results_have_tables declared = results_have_tables_by (by_paths declared) flags_by_paths

pub results_say_the_tables : ResultsSayTheTables
results_say_the_tables declared = results_say_the_tables_by (by_paths declared) flags_by_paths

pub results_are_the_report : ResultsAreTheReport
results_are_the_report declared = results_are_the_report_by (by_paths declared) flags_by_paths

pub one_result : OneResult
one_result declared = one_result_by (by_paths declared) flags_by_paths
