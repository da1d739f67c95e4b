-- What runs of single packages say is the report of all: this goes by the times at which they were.
use Rattle.std.proofs.Common.{◌≡◌, ℕ, zero, suc, ◌<◌, inl, inr, ◌≤◌, Bool, true, false, if◌then◌else◌, List, [], ◌∷◌, map, Contains, Option, Some, None, option_map, is_some, bytes_eq, refl, sym, ap, ◌∙◌, subst, arith}
use Rattle.std.specs.Prelude.{◌↔◌, ◌==◌, ◌&&◌, slice_get, not}
use Rattle.std.proofs.lemmas.Bool.{false≢true}
use Rattle.std.proofs.lemmas.List.{length-map}
use Rattle.std.proofs.lemmas.Option.{none-some, same_Some, slice_get-map, slice_get_cases, slice_get_within}
use Rattle.std.proofs.lemmas.Slice.Eq.{bytes_eq-Decides}
use Rattle.declared_json.specs.DeclaredPackages.{PackageEntry}
use Rattle.declared_tables.specs.DeclaredTables.{declared_tables}
use Rattle.gathering.proofs.Gathered.{results_are_the_report_by}
use Rattle.gathering.proofs.Results.{IsToldByResult, have_told}
use Rattle.gathering.specs.Results.{AreResults, AreRightBelow, IsNotGiven, IsResult, Told, told_of}
use Rattle.imports.proofs.GivenImports.{first_there, there_first}
use Rattle.imports.specs.Ranks.{Package, Imports, Chain, HasRank, ends, goes_on}
use Rattle.imports.specs.Settling.{place_from}
use Rattle.unit_reports.proofs.UnitNames.{named_again}
use Rattle.unit_reports.specs.UnitLaws.{UnitRun, IsKeptOf, IsToldOfRun, KeepsInOrder, AreOfTexts, AreUnitRuns, edition_number, said_by, UnitRunsAreTheReport}
use Rattle.unit_reports.specs.Units.{AreImportsTold, IsRightlyTold, counts_so, kept_of, name_if_any, name_so, told_by_vetx, told_of_path, told_of_package, tellings_in}
use Rattle.unit_reports.specs.declared.units.ImportedUnit.{ImportedUnit}
use Rattle.meaning.proofs.Membership.{contains_here, contains_there}
use Rattle.meaning.specs.OuterBlocks.{has_any, or_else}
use Rattle.meaning_reports.proofs.CountedPackages.{counted, first_counts, passed_over, well}
use Rattle.meaning_reports.proofs.ImportsOf.{given_in_lists, in_lists, names_first}
use Rattle.meaning_reports.proofs.OneReport.{flags_by_paths, nothing_known}
use Rattle.meaning_reports.specs.Loaded.{LoadedPackage, PackageTable, Tables, HaveDistinctPaths, counts, counts_as_given, import_list, imported_paths, name_in, name_of, no_table, package_at, package_names, trees_of}
use Rattle.meaning_reports.specs.PackageReports.{Rules, by_paths}
use Rattle.meaning_reports.specs.PackageTables.{IsEmpty, IsTable, empty, full}
use Rattle.meaning_reports.specs.WholeFaults.{HasNoWholeFault, IsWholeFault}
use Rattle.tree.specs.declared.edition.Edition.{Edition}
use Rattle.tree.specs.declared.edition.Edition.TheVariants.{First, Second}
use Rattle.given_packages.proofs.ImportedNames.{some_from}
use Rattle.given_packages.proofs.ImportedNames.{import_path}
use Rattle.one_package.specs.Judgments.{says_nothing, table_view}
use Rattle.report.specs.Entries.{Entry, entry_of}
use Rattle.report.specs.declared.diagnostics.Diagnostic.{Diagnostic}
use Rattle.vetx_json.specs.KeptUnits.{VetxEntry, function_of}
use Rattle.vetx_tables.specs.KeptLaws.{AreKept}
use Rattle.vetx_tables.specs.KeptTables.{table_again}

same_verdict : (ds : List Diagnostic) → says_nothing ds ≡ not (has_any (map entry_of ds))
same_verdict [] = refl
same_verdict (d ∷ ds) = refl

-- what is told of a path is what was kept of one of that path
told_at : (told : List ImportedUnit) (path : List ℕ) (t : Told) → told_of_path told path ≡ Some t
    → (one : ImportedUnit) × Contains told one × (one.path.now ≡ path) × (told_by_vetx (kept_of one) ≡ t)
told_at [] path t e = absurd (none-some t e)
told_at (one ∷ rest) path t e = by (bytes_eq one.path.now path) refl (told_at rest path t) e
  where
    by : (b : Bool) → bytes_eq one.path.now path ≡ b
        → (told_of_path rest path ≡ Some t
        → (x : ImportedUnit) × Contains rest x × (x.path.now ≡ path) × (told_by_vetx (kept_of x) ≡ t))
        → or_else (if b then Some (told_by_vetx (kept_of one)) else None) (told_of_path rest path) ≡ Some t
        → (x : ImportedUnit) × Contains (one ∷ rest) x × (x.path.now ≡ path) × (told_by_vetx (kept_of x) ≡ t)
    by true same later is =
        (one, contains_here one rest, (bytes_eq-Decides one.path.now path).0 same, same_Some (told_by_vetx (kept_of one)) t is)
    by false same later is = let w = later is in (w.0, contains_there one w.0 rest w.1, w.2, w.3)

-- what is kept of a package's edition and faults tells whether it counts as given
module _ (ps : List LoadedPackage) (j : ℕ) (q : LoadedPackage) (is : slice_get ps j ≡ Some q)
    (rank : HasRank (import_list ps) j) (mark : Bool) (fault : (mark ≡ true) ↔ ((x : Entry) × IsWholeFault ps j x)) where
  counted_first : (m : Bool) → not (m && (edition_number First == 2)) ≡ true
  counted_first true = refl
  counted_first false = refl

  passed_over_so : (c : Bool) → counts_as_given q ≡ c → q.edition ≡ Second → mark ≡ true → counts_as_given q ≡ false
  passed_over_so false e second marked = e
  passed_over_so true e second marked =
      let h = fault.0 marked in absurd (counted ps j q is second e rank h.0 h.1)

  none_marked : mark ≡ false → HasNoWholeFault ps j
  none_marked off x h = false≢true (sym off ∙ fault.1 (x, h))

  counted_so : (edition : Edition) → q.edition ≡ edition → (m : Bool) → mark ≡ m
      → not (m && (edition_number edition == 2)) ≡ counts_as_given q
  counted_so First e m same = counted_first m ∙ sym (first_counts q e)
  counted_so Second e true same = sym (passed_over_so (counts_as_given q) refl e same)
  counted_so Second e false same = sym (well ps j q is (none_marked same))

-- the name of the only package of a path
named_at : (path : List ℕ) (ps : List LoadedPackage) (j : ℕ) (q : LoadedPackage) → slice_get ps j ≡ Some q → q.path ≡ path
    → ((k : ℕ) (r : LoadedPackage) → slice_get ps k ≡ Some r → r.path ≡ path → r ≡ q)
    → package_names ps path ≡ name_of (Some q)
named_at path [] zero q is same only = absurd (none-some q is)
named_at path [] (suc j) q is same only = absurd (none-some q is)
named_at path (p ∷ ps) zero q is same only =
    let own = same_Some p q is in
    ap (λ b. name_of (if b then Some p else package_at path ps))
    ((bytes_eq-Decides p.path path).1 (ap (λ (r : LoadedPackage). r.path) own ∙ same))
    ∙ ap (λ r. name_of (Some r)) own
named_at path (p ∷ ps) (suc j) q is same only =
    by (bytes_eq p.path path) refl (named_at path ps j q is same (λ k r there e. only (suc k) r there e))
  where
    by : (b : Bool) → bytes_eq p.path path ≡ b → name_of (package_at path ps) ≡ name_of (Some q)
        → name_of (if b then Some p else package_at path ps) ≡ name_of (Some q)
    by true e rest = ap (λ r. name_of (Some r)) (only 0 p refl ((bytes_eq-Decides p.path path).0 e))
    by false e rest = rest

module _ (outside : List PackageEntry) (ps : List LoadedPackage) (runs : List (UnitRun outside))
    (distinct : HaveDistinctPaths ps) (texts : AreOfTexts ps) (are : AreUnitRuns outside ps runs) where
  abbrev rules : Rules
  rules = by_paths (declared_tables outside)

  run_of : (j : ℕ) (q : LoadedPackage) → slice_get ps j ≡ Some q → (run : UnitRun outside) × (slice_get runs j ≡ Some run)
  run_of j q is = elim (slice_get_cases runs j).1 [
    | inl w ↦ (w.0, w.2)
    | inr past ↦
        let low = slice_get_within ps j q is in
        let long = are.are_all in
        let out = past.0 in
        absurd (omega (arith, low, long, out))
  ]

  there : (j : ℕ) (item : Package) → slice_get (import_list ps) j ≡ Some item
      → (run : UnitRun outside) × (slice_get runs j ≡ Some run)
  there j item is = let q = given_in_lists ps j item is in run_of j q.0 q.1

  back_in_time : (j k : ℕ) (run last : UnitRun outside) → slice_get runs j ≡ Some run → slice_get runs k ≡ Some last
      → Chain (import_list ps) j k
      → last.time ≤ run.time
  back_in_time j k run last its is_last ends =
      let same : last.time ≡ run.time = ap (λ (u : UnitRun outside). u.time) (same_Some last run (sym is_last ∙ its)) in
      omega (arith, same)
  back_in_time j k run last its is_last (goes_on {j = m} im chain) =
      let next = there m im.imported im.is_imported in
      let before = are.in_order.are_in_time j m run next.0 im its next.1 in
      let later = back_in_time m k next.0 last next.1 is_last chain in
      omega (arith, before, later)

  is_ranked : (i : ℕ) → HasRank (import_list ps) i
  is_ranked i j k chain im back =
      let run = there j im.importer im.is_importer in
      let next = there k im.imported im.is_imported in
      let before = are.in_order.are_in_time j k run.0 next.0 im run.1 next.1 in
      let after = back_in_time k j next.0 run.0 next.1 run.1 back in
      omega (arith, before, after)

  -- Places

  place_at : (j : ℕ) (q : LoadedPackage) → slice_get ps j ≡ Some q → place_from q.path (import_list ps) 0 ≡ Some j
  place_at j q is = there_first (import_list ps) q.path j (record {
    found = _;
    is_found = in_lists ps j q is;
    same = refl;
    first = λ m r found e.
        let w = given_in_lists ps m r found in
        let same = distinct.same j m q w.0 is w.1 (sym (ap (λ (x : Package). x.path) w.2 ∙ e)) in
        omega (arith, same);
  })

  only_one : (j : ℕ) (q : LoadedPackage) → slice_get ps j ≡ Some q → (k : ℕ) (r : LoadedPackage) → slice_get ps k ≡ Some r
      → r.path ≡ q.path
      → r ≡ q
  only_one j q is k r found e =
      same_Some r q (sym found ∙ (ap (slice_get ps) (distinct.same k j r q found is e) ∙ is))

  -- What each is told is right

  counts_there : {i : ℕ} {one : ImportedUnit} (w : IsToldOfRun ps runs i one) → KeepsInOrder w.run.report
      → counts_so (kept_of one) ≡ counts_as_given w.imported
  counts_there {one = one} w ordered =
      let q = w.imported in
      let tells = are.are_of w.place q w.run w.is_imported w.is_run in
      let fault = w.run.is_report.is_fault ps w.place q w.is_imported tells distinct (is_ranked w.place) in
      let same : counts_so (kept_of one) ≡ not (w.run.report.has_whole_fault && (edition_number q.edition == 2)) =
      λ k. not ((w.is_kept ordered).is_fault k && (w.is_edition ordered k == 2)) in
      same
      ∙ counted_so ps w.place q w.is_imported (is_ranked w.place) w.run.report.has_whole_fault fault q.edition refl
      w.run.report.has_whole_fault refl

  told_right : (i : ℕ) (one : ImportedUnit) (w : IsToldOfRun ps runs i one) → KeepsInOrder w.run.report → IsRightlyTold ps one
  told_right i one w ordered =
      let q = w.imported in
      let tells = are.are_of w.place q w.run w.is_imported w.is_run in
      let counts_right = counts_there w ordered in
      let name : name_if_any (kept_of one).name ≡ name_in (trees_of q) =
      ap name_if_any ((w.is_kept ordered).is_name ∙ w.run.is_report.is_name q tells)
      ∙ named_again q.edition (trees_of q) (texts w.place q w.is_imported) in
      let named : name_so (kept_of one) ≡ name_of (Some q) = λ k. if counts_right k then name k else None in
      record {
        place = w.place;
        is_place = ap (λ path. place_from path (import_list ps) 0) w.is_path ∙ place_at w.place q w.is_imported;
        is_name =
            named
            ∙ (sym (named_at q.path ps w.place q w.is_imported refl (only_one w.place q w.is_imported))
            ∙ ap (package_names ps) (sym w.is_path));
        is_counted = counts_right ∙ sym (ap counts w.is_imported);
      }

  imports_told : (i : ℕ) (p : LoadedPackage) (run : UnitRun outside) → slice_get ps i ≡ Some p → slice_get runs i ≡ Some run
      → ((one : ImportedUnit) (w : IsToldOfRun ps runs i one) → KeepsInOrder w.run.report)
      → AreImportsTold ps p run.told
  imports_told i p run is its ordered = record {
    are_right = λ one h names.
        let w = are.in_order.are_told i p run one is its h names in told_right i one w (ordered one w);
    are_all = λ path names given.
        let n = some_from (place_from path (import_list ps) 0) given in
        let first = first_there (import_list ps) path n.0 n.1 in
        let q = given_in_lists ps n.0 first.found first.is_found in
        let same : q.0.path ≡ path = ap (λ (x : Package). x.path) q.2 ∙ first.same in
        subst (λ at. is_some (told_of_path run.told at) ≡ true) same
        (are.in_order.all_are_told i n.0 q.0 run (names_first ps i p is path n.0 names first) q.1 its);
  }

  -- by that what was kept it tells what the run says
  tells_so : (run : UnitRun outside) (v : VetxEntry) → IsKeptOf run.report v
      → AreKept (table_view run.is_report.judged) (map function_of run.report.functions.items)
      → (counted : Bool) → counts_so v ≡ counted
      → (counted ≡ false → IsEmpty (table_view run.is_report.judged))
      → told_by_vetx v ≡ told_of (said_by run)
  tells_so run v kept again counted is none i = record {
    table = (ap (λ b. table_again (if b then v.functions else [])) is ∙ by counted none) i;
    is_yes = (kept.is_yes ∙ (run.is_report.verdict ∙ same_verdict run.is_report.judged.report.diagnostics.items)) i;
  }
    where
      by : (b : Bool) → (b ≡ false → IsEmpty (table_view run.is_report.judged))
          → table_again (if b then v.functions else []) ≡ table_view run.is_report.judged
      by true known = ap table_again kept.are_functions ∙ again.is_again
      by false known = sym (nothing_known (table_view run.is_report.judged) (known refl))

  -- one that counts as not given has an empty table
  empty_so : (j : ℕ) (q : LoadedPackage) (known : Tables) (table : PackageTable) → slice_get ps j ≡ Some q
      → counts_as_given q ≡ false
      → IsTable ps known j q table
      → IsEmpty table
  empty_so j q known table is not_counted (empty x fault nothing) = nothing
  empty_so j q known table is not_counted (full flags none its signatures calls told) =
      let w = passed_over ps j q is not_counted in absurd (none w.0 w.1)

  -- the tables that the runs say
  abbrev table_there : Option (UnitRun outside) → PackageTable
  table_there None = no_table
  table_there (Some run) = (said_by run).table

  abbrev table_of : List ℕ → Option ℕ → PackageTable
  table_of path None = declared_tables outside path
  table_of path (Some n) = table_there (slice_get runs n)

  abbrev tables : Tables
  tables path = table_of path (place_from path (import_list ps) 0)

  table_at : (j : ℕ) (q : LoadedPackage) (run : UnitRun outside) → slice_get ps j ≡ Some q → slice_get runs j ≡ Some run
      → tables q.path ≡ (said_by run).table
  table_at j q run is its = ap (table_of q.path) (place_at j q is) ∙ ap table_there its

  of_others : (path : List ℕ) → IsNotGiven ps path → tables path ≡ declared_tables outside path
  of_others path none = by (place_from path (import_list ps) 0) refl
    where
      by : (o : Option ℕ) → place_from path (import_list ps) 0 ≡ o → table_of path o ≡ declared_tables outside path
      by None e = refl
      by (Some n) e =
          let first = first_there (import_list ps) path n e in
          let q = given_in_lists ps n first.found first.is_found in
          absurd (none n q.0 q.1 (ap (λ (x : Package). x.path) q.2 ∙ first.same))

  -- what is known of a run once all before it are known
  record IsRightRun (i : ℕ) (p : LoadedPackage) (run : UnitRun outside) : Type 0 where
    is_result : IsResult rules ps i p (said_by run)
    is_table : IsTable ps tables i p (said_by run).table

  again : (i : ℕ) (p : LoadedPackage) (run : UnitRun outside) → slice_get ps i ≡ Some p → slice_get runs i ≡ Some run
      → IsRightRun i p run
      → AreKept (table_view run.is_report.judged) (map function_of run.report.functions.items)
  again i p run is its right = run.is_report.are_kept ps tables i p (are.are_of i p run is its) right.is_table

  keeps_so : (i : ℕ) (p : LoadedPackage) (run : UnitRun outside) → slice_get ps i ≡ Some p → slice_get runs i ≡ Some run
      → IsRightRun i p run
      → KeepsInOrder run.report
  keeps_so i p run is its right =
      let kept = again i p run is its right in
      record { names_rise = kept.names_rise; each_in_order = kept.each_in_order }

  -- what is told of an import is what its run says
  tells_import : (i j : ℕ) (p q : LoadedPackage) (run imported : UnitRun outside) → slice_get ps i ≡ Some p
      → slice_get ps j ≡ Some q
      → slice_get runs i ≡ Some run
      → slice_get runs j ≡ Some imported
      → Imports (import_list ps) i j
      → IsRightRun j q imported
      → tellings_in ps run.told j ≡ Some (told_of (said_by imported))
  tells_import i j p q run imported is is_q its its_q im right =
      let t = some_from (told_of_path run.told q.path) (are.in_order.all_are_told i j q run im is_q its) in
      let w = told_at run.told q.path t.0 t.1 in
      let names = subst (Contains (imported_paths p)) (sym w.2) (import_path ps i j p q is is_q im) in
      let of = are.in_order.are_told i p run w.0 is its w.1 names in
      let place = distinct.same of.place j of.imported q of.is_imported is_q (sym of.is_path ∙ w.2) in
      let same = same_Some of.run imported (sym of.is_run ∙ (ap (slice_get runs) place ∙ its_q)) in
      let ordered : KeepsInOrder of.run.report =
      subst (λ (r : UnitRun outside). KeepsInOrder r.report) (sym same) (keeps_so j q imported is_q its_q right) in
      ap (told_of_package run.told) is_q
      ∙ (t.1 ∙ ap Some (sym w.3 ∙ tells_so imported (kept_of w.0)
      (subst (λ (r : UnitRun outside). IsKeptOf r.report (kept_of w.0)) same (of.is_kept ordered)) (again j q imported is_q its_q right)
      (counts_so (kept_of w.0)) refl
      (λ off. empty_so j q tables (said_by imported).table is_q
      (sym (ap counts_as_given (same_Some of.imported q (sym of.is_imported ∙ (ap (slice_get ps) place ∙ is_q))))
      ∙ (sym (counts_there of ordered) ∙ off)) right.is_table)))

  right_run : (n i : ℕ) (p : LoadedPackage) (run : UnitRun outside) → slice_get ps i ≡ Some p → slice_get runs i ≡ Some run
      → run.time < n
      → IsRightRun i p run
  right_run zero i p run is its low = absurd (omega (arith, low))
  right_run (suc n) i p run is its low =
      by (λ j q other is_q its_q before. right_run n j q other is_q its_q (omega (arith, before, low)))
    where
      by : ((j : ℕ) (q : LoadedPackage) (other : UnitRun outside) → slice_get ps j ≡ Some q → slice_get runs j ≡ Some other
          → other.time < run.time
          → IsRightRun j q other) → IsRightRun i p run
      by before = record { is_result = result; is_table = (result tables right).is_table }
        where
          told_there : (j : ℕ) (q : LoadedPackage) (one : Told) → Imports (import_list ps) i j → slice_get ps j ≡ Some q
              → tellings_in ps run.told j ≡ Some one
              → IsToldByResult rules ps j q one
          told_there j q one im is_q found =
              let other = run_of j q is_q in
              let so = before j q other.0 is_q other.1 (are.in_order.are_in_time i j run other.0 im its other.1) in
              record {
                said = said_by other.0;
                is_result = so.is_result;
                tells = same_Some (told_of (said_by other.0)) one
                    (sym (tells_import i j p q run other.0 is is_q its other.1 im so) ∙ found);
              }

          ordered : (one : ImportedUnit) (w : IsToldOfRun ps runs i one) → KeepsInOrder w.run.report
          ordered one w =
              keeps_so w.place w.imported w.run w.is_imported w.is_run
              (before w.place w.imported w.run w.is_imported w.is_run
              (are.in_order.are_in_time i w.place run w.run w.imports its w.is_run))

          result : IsResult rules ps i p (said_by run)
          result known right =
              run.is_report.is_judged.follows ps i p is (are.are_of i p run is its) (is_ranked i) (imports_told i p run is its ordered) known
              (have_told rules flags_by_paths ps known i (tellings_in ps run.told) right told_there)

          right : AreRightBelow rules ps tables i
          right = record {
            of_below = λ j q is_q below.
                let other = run_of j q is_q in
                let next = there below.first below.imports.imported below.imports.is_imported in
                let first = are.in_order.are_in_time i below.first run next.0 below.imports its next.1 in
                let rest = back_in_time below.first j next.0 other.0 next.1 other.1 below.chain in
                let so = before j q other.0 is_q other.1 (omega (arith, first, rest)) in
                subst (IsTable ps tables j q) (sym (table_at j q other.0 is_q other.1)) so.is_table;
            of_others = of_others;
          }

  each_right : (i : ℕ) (p : LoadedPackage) (run : UnitRun outside) → slice_get ps i ≡ Some p → slice_get runs i ≡ Some run
      → IsRightRun i p run
  each_right i p run is its = right_run (suc run.time) i p run is its (omega arith)

  -- each keeps what it keeps in order
  pub keep_in_order : (i : ℕ) (p : LoadedPackage) (run : UnitRun outside) → slice_get ps i ≡ Some p → slice_get runs i ≡ Some run
      → KeepsInOrder run.report
  keep_in_order i p run is its = keeps_so i p run is its (each_right i p run is its)

  results : AreResults rules ps (slice_get (map said_by runs))
  results i p said is found = by (slice_get runs i) refl (sym (slice_get-map said_by runs i) ∙ found)
    where
      by : (o : Option (UnitRun outside)) → slice_get runs i ≡ o → option_map said_by o ≡ Some said
          → IsResult rules ps i p said
      by None its bad = absurd (none-some said bad)
      by (Some run) its same =
          subst (IsResult rules ps i p) (same_Some (said_by run) said same) (each_right i p run is its).is_result

pub unit_runs_are_the_report : UnitRunsAreTheReport
unit_runs_are_the_report outside ps runs distinct texts are =
    results_are_the_report_by (by_paths (declared_tables outside)) flags_by_paths ps (map said_by runs) distinct
    (length-map runs said_by ∙ are.are_all) (results outside ps runs distinct texts are)
