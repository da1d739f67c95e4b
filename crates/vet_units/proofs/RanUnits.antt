-- Each yes among units that ran in order is quiet.
use Rattle.std.proofs.Common.{◌⊎◌, ◌≡◌, ◌<◌, ℕ, zero, suc, inl, inr, Bool, true, false, cond, List, [], ◌∷◌, map, length, All, Contains, Option, Some, None, is_some, option_map, refl, sym, ap, ◌∙◌, subst, string_bytes, arith, bytes_eq}
use Rattle.std.specs.Prelude.{filter, slice_get, if◌then◌else◌}
use Rattle.std.specs.List.{AllByRecursion, AllZip}
use Rattle.std.proofs.lemmas.Bool.{false≢true}
use Rattle.std.proofs.lemmas.List.{length-map}
use Rattle.std.proofs.lemmas.Option.{none-some, same_Some, slice_get-map}
use Rattle.std.proofs.lemmas.Slice.Eq.{bytes_eq-Decides}
use Rattle.meaning.proofs.Membership.{contains_nil, contains_here, contains_there, contains_cases, contains_filter}
use Rattle.vet_units.proofs.OtherFacts.{follows_so, notes_so, holds_so, known_same}
use Rattle.command_line.specs.declared.vet_told.UnitFlags.{UnitFlags}
use Rattle.declared_json.specs.DeclaredPackages.{PackageEntry, packages_of, table_at}
use Rattle.declared_tables.specs.DeclaredTables.{declared_tables, table_declared}
use Rattle.gathering.specs.Results.{IsNotGiven}
use Rattle.folders.specs.ReadFiles.{bytes_read}
use Rattle.imports.specs.Ranks.{Imports, Package}
use Rattle.command_line.specs.Words.{edition_number as number_of}
use Rattle.unit_reports.proofs.UnitSilence.{silent_units_are_yes}
use Rattle.unit_reports.proofs.UnitYes.{quiet_units}
use Rattle.unit_reports.specs.UnitLaws.{AreOfTexts, AreQuietUnits, AreToldInOrder, AreUnitRuns, edition_number, is_text, IsKeptOf, IsToldOfRun, KeepsInOrder, said_by, UnitRun}
use Rattle.unit_reports.specs.Units.{kept_of, NotesFollowFromTold, told_by_vetx, told_of_path}
use Rattle.unit_reports.specs.declared.units.ImportedUnit.{ImportedUnit}
use Rattle.unit_reports.specs.declared.units.UnitReport.{UnitReport}
use Rattle.meaning.specs.OuterBlocks.{or_else}
use Rattle.meaning_reports.specs.Loaded.{LoadedPackage, HaveDistinctPaths, import_list, imported_paths}
use Rattle.meaning_reports.specs.PackageReports.{IsReportBy, Said, by_paths}
use Rattle.meaning_runs.specs.PackageYes.{program_of}
use Rattle.meaning_runs.specs.Promise.{AreTreesOfTexts}
use Rattle.meaning_runs.specs.Runs.{IsQuietProgram}
use Rattle.one_package.specs.Judgments.{said_view}
use Rattle.table_json.specs.Tables.{Rise, by_bytes, HasOrder}
use Rattle.told_reports.specs.declared.unit.UnitShape.{UnitShape}
use Rattle.told_reports.specs.declared.unit.UnitShape.TheVariants.{Text, Json}
use Rattle.tree.specs.declared.edition.Edition.{Edition}
use Rattle.tree.specs.declared.edition.Edition.TheVariants.{First, Second}
use Rattle.unit_reading.specs.ToldImports.{counts_in, IsTold}
use Rattle.unit_reading.specs.UnitsTold.{without_suffix}
use Rattle.unit_reading.specs.declared.vetx_input.ToldImport.{ToldImport}
use Rattle.vetx_json.proofs.VetxLaws.{one_of_text}
use Rattle.vetx_json.specs.KeptUnits.{VetxEntry, facts_of, name_of, vetx_of, IsInOrder}
use Rattle.vetx_json.specs.VetxTexts.{IsWrittenText}
use Rattle.whole_packages.specs.LoadedViews.{TellsPackage}
use Rattle.vet_units.specs.JudgedUnits.{IsCounted, IsShapeOf}
use Rattle.vet_units.specs.UnitsRead.{edition_of_unit}
use Rattle.vet_units.specs.QuietUnits.{known_to, package_of, packages_in, said_in, IsQuietAmong, RanInOrder, RanUnit, SilenceIsYes}

-- Imports that count

unfiltered : {X : Type 0} (test : X → Bool) (xs : List X) (x : X) → Contains (filter test xs) x → Contains xs x × (test x ≡ true)
unfiltered test [] x h = absurd (contains_nil x h)
unfiltered test (y ∷ xs) x h = by (test y) refl h (unfiltered test xs x)
  where
    by : (b : Bool) → test y ≡ b → Contains (cond b (y ∷ filter test xs) (filter test xs)) x
        → (Contains (filter test xs) x → Contains xs x × (test x ≡ true))
        → Contains (y ∷ xs) x × (test x ≡ true)
    by true e there rest = elim (contains_cases y x (filter test xs) there) [
      | inl same ↦ (subst (Contains (y ∷ xs)) same (contains_here y xs), ap test (sym same) ∙ e)
      | inr later ↦ let w = rest later in (contains_there y x xs w.0, w.1)
    ]
    by false e there rest = let w = rest there in (contains_there y x xs w.0, w.1)

counted_of : (told : List ToldImport) (imports : List ImportedUnit) (one : ImportedUnit) → AllZip IsCounted told imports
    → Contains imports one
    → (t : ToldImport) × Contains told t × IsCounted t one
counted_of [] [] one h there = absurd (contains_nil one there)
counted_of [] (x ∷ xs) one h there = absurd h
counted_of (t ∷ ts) [] one h there = absurd h
counted_of (t ∷ ts) (x ∷ xs) one h there = elim (contains_cases x one xs there) [
  | inl same ↦ (t, contains_here t ts, subst (IsCounted t) same h.0)
  | inr later ↦ let w = counted_of ts xs one h.1 later in (w.0, contains_there t w.0 ts w.1, w.2)
]

counted_there : (told : List ToldImport) (imports : List ImportedUnit) (t : ToldImport) → AllZip IsCounted told imports
    → Contains told t
    → (one : ImportedUnit) × Contains imports one × IsCounted t one
counted_there [] [] t h there = absurd (contains_nil t there)
counted_there [] (x ∷ xs) t h there = absurd h
counted_there (s ∷ ts) [] t h there = absurd h
counted_there (s ∷ ts) (x ∷ xs) t h there = elim (contains_cases s t ts there) [
  | inl same ↦ (x, contains_here x xs, subst (λ u. IsCounted u x) same h.0)
  | inr later ↦ let w = counted_there ts xs t h.1 later in (w.0, contains_there x w.0 xs w.1, w.2)
]

told_there : (imports : List ImportedUnit) (one : ImportedUnit) (path : List ℕ) → Contains imports one → one.path.now ≡ path
    → is_some (told_of_path imports path) ≡ true
told_there [] one path there is = absurd (contains_nil one there)
told_there (x ∷ xs) one path there is =
    by (bytes_eq x.path.now path) refl (contains_cases x one xs there) (λ later. told_there xs one path later is)
  where
    by : (b : Bool) → bytes_eq x.path.now path ≡ b → (x ≡ one) ⊎ Contains xs one
        → (Contains xs one → is_some (told_of_path xs path) ≡ true)
        → is_some (or_else (if b then Some (told_by_vetx (kept_of x)) else None) (told_of_path xs path)) ≡ true
    by true e place rest = refl
    by false e (inl same) rest =
        absurd (false≢true (sym e ∙ (bytes_eq-Decides x.path.now path).1 (ap (λ (u : ImportedUnit). u.path.now) same ∙ is)))
    by false e (inr later) rest = rest later

all_at : {X : Type 0} (P : X → Type 0) (xs : List X) (x : X) → All P xs → Contains xs x → P x
all_at P xs x all there = subst P there.2 (all there.0 x there.1)

-- What one keeps

in_order_of : (ran : RanUnit) → KeepsInOrder ran.is_judged.report → IsInOrder (vetx_of ran.judged.kept)
in_order_of ran ordered =
    let same = sym ran.is_judged.is_kept.are_functions in
    record {
      names_rise = subst (Rise by_bytes name_of) same ordered.names_rise;
      each_in_order = subst (AllByRecursion (λ f. HasOrder (facts_of f))) same ordered.each_in_order;
    }

-- One unit, beside what is known

abbrev own : RanUnit → List ℕ
own ran = without_suffix ran.unit.path

own_path : (ran : RanUnit) → (package_of ran).path ≡ own ran
own_path ran = ran.is_judged.is_report.is_loaded.is_loaded.is_path ∙ ran.is_input.is_package.is_path

module _ (known : List PackageEntry) where
  agree : (ran : RanUnit) → known_to ran ≡ known → (ps : List LoadedPackage) (i : ℕ) (p : LoadedPackage) → slice_get ps i ≡ Some p
      → TellsPackage p ran.is_judged.is_report.kept
      → (path : List ℕ)
      → IsNotGiven ps path
      → declared_tables known path ≡ declared_tables (packages_of ran.input.outside) path
  agree ran beside ps i p is tells path none =
      let alone = ran.is_judged.is_report.is_loaded.is_loaded.tells in
      let of_own : p.path ≡ own ran = tells.is_path ∙ sym alone.is_path ∙ own_path ran in
      ap table_declared
      (known_same (own ran) path (λ same. none i p is (of_own ∙ same)) (edition_of_unit ran.flags) ran.flags.without_library
      (packages_of ran.is_input.are_outside.declared) known beside
      ∙ ap (λ o. table_at path o) (sym ran.is_input.are_outside.are_known))

  abbrev as_run : (ran : RanUnit) → known_to ran ≡ known → UnitRun known
  as_run ran beside =
      let given = ran.is_judged.is_report in
      let told = given.is_report in
      record {
        form = ran.is_judged.form;
        told = ran.is_judged.imports;
        loaded = given.kept;
        report = ran.is_judged.report;
        is_report = record {
          judged = told.judged;
          is_judged = record {
            tells = told.is_judged.tells;
            follows = λ ps i p is tells rank imports.
                follows_so (declared_tables known) (declared_tables (packages_of ran.input.outside)) ps i p _ (said_view told.judged)
                (agree ran beside ps i p is tells) (told.is_judged.follows ps i p is tells rank imports);
          };
          is_text =
              holds_so told.judged (NotesFollowFromTold (packages_of ran.input.outside) ran.is_judged.imports given.kept)
              (NotesFollowFromTold known ran.is_judged.imports given.kept) _
              (λ x notes ps i p is tells rank imports.
              notes_so (declared_tables known) (declared_tables (packages_of ran.input.outside)) ps i p _ x (agree ran beside ps i p is tells)
              (notes ps i p is tells rank imports))
              ran.is_judged.form.with_reasons told.is_text;
          verdict = told.verdict;
          is_name = told.is_name;
          is_fault = told.is_fault;
          are_kept = told.are_kept;
        };
        time = ran.time;
      }

  -- All units

  abbrev AreBeside : List RanUnit → Type 0
  AreBeside runs = AllByRecursion (λ ran. known_to ran ≡ known) runs

  abbrev as_runs : (runs : List RanUnit) → AreBeside runs → List (UnitRun known)
  as_runs [] h = []
  as_runs (ran ∷ rest) h = as_run ran h.0 ∷ as_runs rest h.1

  record IsRunOf (runs : List RanUnit) (i : ℕ) (run : UnitRun known) : Type 0 where
    ran : RanUnit
    is_ran : slice_get runs i ≡ Some ran
    beside : known_to ran ≡ known
    is_run : as_run ran beside ≡ run

  run_of : (runs : List RanUnit) (h : AreBeside runs) (i : ℕ) (run : UnitRun known) → slice_get (as_runs runs h) i ≡ Some run
      → IsRunOf runs i run
  run_of [] h zero run is = absurd (none-some run is)
  run_of [] h (suc i) run is = absurd (none-some run is)
  run_of (ran ∷ rest) h zero run is =
      record { ran = ran; is_ran = refl; beside = h.0; is_run = same_Some (as_run ran h.0) run is }
  run_of (ran ∷ rest) h (suc i) run is =
      let w = run_of rest h.1 i run is in record { ran = w.ran; is_ran = w.is_ran; beside = w.beside; is_run = w.is_run }

  there_run : (runs : List RanUnit) (h : AreBeside runs) (i : ℕ) (ran : RanUnit) → slice_get runs i ≡ Some ran
      → (beside : known_to ran ≡ known) × (slice_get (as_runs runs h) i ≡ Some (as_run ran beside))
  there_run [] h zero ran is = absurd (none-some ran is)
  there_run [] h (suc i) ran is = absurd (none-some ran is)
  there_run (first ∷ rest) h zero ran is =
      subst (λ r. (beside : known_to r ≡ known) × (Some (as_run first h.0) ≡ Some (as_run r beside))) (same_Some first ran is)
      (h.0, refl)
  there_run (first ∷ rest) h (suc i) ran is = there_run rest h.1 i ran is

  as_many : (runs : List RanUnit) (h : AreBeside runs) → length (as_runs runs h) ≡ length runs
  as_many [] h = refl
  as_many (ran ∷ rest) h = ap suc (as_many rest h.1)

  said_same : (runs : List RanUnit) (h : AreBeside runs) → map said_by (as_runs runs h) ≡ map said_in runs
  said_same [] h = refl
  said_same (ran ∷ rest) h = ap (λ l. said_in ran ∷ l) (said_same rest h.1)

-- The number of an edition

same_number : (edition : Edition) → number_of edition ≡ edition_number edition
same_number First = refl
same_number Second = refl

-- Places

package_at : (runs : List RanUnit) (i : ℕ) (ran : RanUnit) → slice_get runs i ≡ Some ran
    → slice_get (packages_in runs) i ≡ Some (package_of ran)
package_at runs i ran is = slice_get-map package_of runs i ∙ ap (option_map package_of) is

ran_at : (runs : List RanUnit) (i : ℕ) (p : LoadedPackage) → slice_get (packages_in runs) i ≡ Some p
    → (ran : RanUnit) × (slice_get runs i ≡ Some ran) × (package_of ran ≡ p)
ran_at runs i p is = by (slice_get runs i) refl (sym (slice_get-map package_of runs i) ∙ is)
  where
    by : (o : Option RanUnit) → slice_get runs i ≡ o → option_map package_of o ≡ Some p
        → (ran : RanUnit) × (slice_get runs i ≡ Some ran) × (package_of ran ≡ p)
    by None its bad = absurd (none-some p bad)
    by (Some ran) its same = (ran, its, same_Some (package_of ran) p same)

abbrev listed : LoadedPackage → Package
listed p = record { path = p.path; imports = imported_paths p }

listed_at : (ps : List LoadedPackage) (i : ℕ) (p : LoadedPackage) → slice_get ps i ≡ Some p
    → slice_get (import_list ps) i ≡ Some (listed p)
listed_at ps i p is = slice_get-map listed ps i ∙ ap (option_map listed) is

unlisted : (ps : List LoadedPackage) (i : ℕ) (x : Package) → slice_get (import_list ps) i ≡ Some x
    → (p : LoadedPackage) × (slice_get ps i ≡ Some p) × (listed p ≡ x)
unlisted ps i x is = by (slice_get ps i) refl (sym (slice_get-map listed ps i) ∙ is)
  where
    by : (o : Option LoadedPackage) → slice_get ps i ≡ o → option_map listed o ≡ Some x
        → (p : LoadedPackage) × (slice_get ps i ≡ Some p) × (listed p ≡ x)
    by None its bad = absurd (none-some x bad)
    by (Some p) its same = (p, its, same_Some (listed p) x same)

imports_it : (ps : List LoadedPackage) → HaveDistinctPaths ps → (i j : ℕ) (p q : LoadedPackage) → slice_get ps i ≡ Some p
    → slice_get ps j ≡ Some q
    → Contains (imported_paths p) q.path
    → Imports (import_list ps) i j
imports_it ps distinct i j p q is its names = record {
  importer = listed p;
  imported = listed q;
  is_importer = listed_at ps i p is;
  is_imported = listed_at ps j q its;
  names = names;
  is_first = λ k x there same.
      let w = unlisted ps k x there in
      let at : j ≡ k = distinct.same j k q w.0 its w.1 (sym (ap (λ (y : Package). y.path) w.2 ∙ same)) in
      omega (arith, at);
}

-- Together

-- what is said of one of all units, where this is said of them
record IsQuietBy
    (known : List PackageEntry) (ps : List LoadedPackage) (yes : Bool) (i : ℕ) (report : UnitReport) (said : List Said)
    : Type 0 where
  is_report : IsReportBy (by_paths (declared_tables known)) ps said
  is_only : (other : List Said) → IsReportBy (by_paths (declared_tables known)) ps other → other ≡ said
  yes_is_quiet : yes ≡ true → IsQuietProgram (program_of ps is_report.tables (declared_tables known) i)
  keeps_in_order : KeepsInOrder report

module _ (runs : List RanUnit) (known : List PackageEntry) (order : RanInOrder runs known) where
  abbrev all : List (UnitRun known)
  all = as_runs known runs order.are_beside

  abbrev ps : List LoadedPackage
  ps = packages_in runs

  -- what was kept in order is read as it was kept
  read_as_kept : (ran : RanUnit) (told : ToldImport) → Contains ran.input.told.items told → (found : RanUnit)
      → IsWrittenText (vetx_of found.judged.kept) (bytes_read told.file)
      → KeepsInOrder found.is_judged.report
      → vetx_of told.kept ≡ vetx_of found.judged.kept
  read_as_kept ran told there found text ordered =
      let is_told = all_at (IsTold _ _ ran.unit) ran.input.told.items told ran.is_input.are_told.each there in
      one_of_text (bytes_read told.file) (vetx_of told.kept) (vetx_of found.judged.kept) is_told.is_kept.is_text
      (text.reads_back (in_order_of found ordered))

  told_of : (i : ℕ) (ran : RanUnit) (one : ImportedUnit) → slice_get runs i ≡ Some ran → Contains ran.is_judged.imports one
      → Contains (imported_paths (package_of ran)) one.path.now
      → IsToldOfRun ps all i one
  told_of i ran one is there names =
      let t = counted_of (filter (counts_in (string_bytes ran.input.module_path)) ran.input.told.items) ran.is_judged.imports one ran.is_judged.are_imports there in
      let kept = unfiltered (counts_in (string_bytes ran.input.module_path)) ran.input.told.items t.0 t.1 in
      let f = order.are_told i ran t.0 is (record { is_told = kept.0; counts = kept.1 })
      (subst (Contains (imported_paths (package_of ran))) t.2.is_path names) in
      let at = package_at runs f.place f.by f.is_by in
      let path : one.path.now ≡ (package_of f.by).path = t.2.is_path ∙ f.is_path in
      let run = there_run known runs order.are_beside f.place f.by f.is_by in
      let what : KeepsInOrder f.by.is_judged.report → kept_of one ≡ vetx_of f.by.judged.kept =
      λ ordered. ap vetx_of t.2.is_kept ∙ read_as_kept ran t.0 kept.0 f.by f.is_text ordered in
      record {
        place = f.place;
        imported = package_of f.by;
        run = as_run known f.by run.0;
        is_imported = at;
        is_run = run.1;
        imports =
            imports_it ps order.are_apart i f.place (package_of ran) (package_of f.by) (package_at runs i ran is) at
            (subst (Contains (imported_paths (package_of ran))) path names);
        is_path = path;
        is_kept = λ ordered. subst (IsKeptOf f.by.is_judged.report) (sym (what ordered)) f.by.is_judged.is_kept;
        is_edition = λ ordered.
            ap (λ (v : VetxEntry). v.edition) (what ordered)
            ∙ f.by.is_judged.is_edition
            ∙ same_number (edition_of_unit f.by.flags)
            ∙ sym (ap edition_number (f.by.is_judged.is_report.is_loaded.is_loaded.is_edition ∙ f.by.is_input.is_package.is_edition));
      }

  in_order : AreToldInOrder known ps all
  in_order = record {
    are_told = λ i p run one is its there names.
        let w = run_of known runs order.are_beside i run its in
        let same : package_of w.ran ≡ p = same_Some (package_of w.ran) p (sym (package_at runs i w.ran w.is_ran) ∙ is) in
        told_of i w.ran one w.is_ran
        (subst (λ (u : UnitRun known). Contains u.told one) (sym w.is_run) there)
        (subst (λ q. Contains (imported_paths q) one.path.now) (sym same) names);
    all_are_told = λ i j q run im is its.
        let w = run_of known runs order.are_beside i run its in
        let r = ran_at runs j q is in
        let t = order.all_are_told i j w.ran r.0 w.is_ran r.1 im in
        let told = contains_filter (counts_in (string_bytes w.ran.input.module_path)) w.ran.input.told.items t.0 t.1.is_told t.1.counts in
        let c = counted_there (filter (counts_in (string_bytes w.ran.input.module_path)) w.ran.input.told.items) w.ran.is_judged.imports t.0
        w.ran.is_judged.are_imports told in
        let path : c.0.path.now ≡ q.path = c.2.is_path ∙ t.2 ∙ ap (λ (p : LoadedPackage). p.path) r.2 in
        subst (λ (u : UnitRun known). is_some (told_of_path u.told q.path) ≡ true) w.is_run
        (told_there w.ran.is_judged.imports c.0 q.path c.1 path);
    are_in_time = λ i j run imported im its is.
        let w = run_of known runs order.are_beside i run its in
        let v = run_of known runs order.are_beside j imported is in
        subst (λ (u : UnitRun known). u.time < run.time) v.is_run
        (subst (λ (u : UnitRun known). v.ran.time < u.time) w.is_run
        (order.are_in_time i j w.ran v.ran w.is_ran v.is_ran im));
  }

  texts : AreOfTexts ps
  texts i p is = let w = ran_at runs i p is in subst AreTreesOfTexts w.2 w.0.is_judged.is_report.is_loaded.of_texts

  are_runs : AreUnitRuns known ps all
  are_runs = record {
    are_all = as_many known runs order.are_beside ∙ sym (length-map runs package_of);
    are_of = λ i p run is its.
        let w = run_of known runs order.are_beside i run its in
        let same : package_of w.ran ≡ p = same_Some (package_of w.ran) p (sym (package_at runs i w.ran w.is_ran) ∙ is) in
        subst (λ (u : UnitRun known). TellsPackage p u.loaded) w.is_run
        (subst (λ q. TellsPackage q w.ran.is_judged.is_report.kept) same w.ran.is_judged.is_report.is_loaded.is_loaded.tells);
    in_order = in_order;
  }

  quiet_by : AreQuietUnits known ps all → (i : ℕ) (ran : RanUnit) → slice_get runs i ≡ Some ran
      → IsQuietBy known ps ran.judged.kept.is_yes i ran.is_judged.report (map said_by all)
  quiet_by quiet i ran is = record {
    is_report = quiet.is_report;
    is_only = quiet.is_only;
    yes_is_quiet = λ yes.
        let run = there_run known runs order.are_beside i ran is in
        quiet.each_yes_is_quiet i (as_run known ran run.0) run.1 (sym ran.is_judged.is_kept.is_yes ∙ yes);
    keeps_in_order =
        let run = there_run known runs order.are_beside i ran is in
        quiet.each_keeps_in_order i (as_run known ran run.0) run.1;
  }

pub quiet_among : (ran : RanUnit) → IsQuietAmong ran
quiet_among ran runs known i order is =
    let quiet = quiet_units known (packages_in runs) (as_runs known runs order.are_beside) order.are_apart
    (texts runs known order) (are_runs runs known order) in
    let by = subst (IsQuietBy known (packages_in runs) ran.judged.kept.is_yes i ran.is_judged.report) (said_same known runs order.are_beside)
    (quiet_by runs known order quiet i ran is) in
    record {
      is_report = by.is_report;
      is_only = by.is_only;
      yes_is_quiet = by.yes_is_quiet;
      is_in_order = in_order_of ran by.keeps_in_order;
    }

-- A unit without a text

text_shape : (flags : UnitFlags) (id : List ℕ) (shape : UnitShape) → IsShapeOf flags id shape → flags.is_json ≡ false
    → is_text shape ≡ true
text_shape flags id (Text around) is off = refl
text_shape flags id (Json name) is off = absurd (false≢true (sym off ∙ is.0))

pub silence_is_yes : (ran : RanUnit) → SilenceIsYes ran
silence_is_yes ran text accepted empty =
    let so = ran.is_judged in
    let run : UnitRun (packages_of ran.input.outside) = record {
      form = so.form;
      told = so.imports;
      loaded = so.is_report.kept;
      report = so.report;
      is_report = so.is_report.is_report;
      time = ran.time;
    } in
    so.is_kept.is_yes
    ∙ silent_units_are_yes.silence_is_yes (packages_of ran.input.outside) run
    (text_shape ran.flags ran.unit.id so.form.shape so.is_form.is_shape text)
    (so.is_form.is_telling.tells_accepted ∙ accepted) (sym so.is_text ∙ empty)
