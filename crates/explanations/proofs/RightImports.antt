-- What is known around a package whose imports were judged right.
use Rattle.std.proofs.Common.{◌≡◌, ℕ, true, List, length, Contains, Some, filter_map, option_map, is_some, sym, ap, ◌∙◌, arith}
use Rattle.std.specs.Prelude.{slice_get}
use Rattle.std.proofs.lemmas.Bool.{false≢true}
use Rattle.std.proofs.lemmas.List.{length-map}
use Rattle.std.proofs.lemmas.Option.{slice_get-map, slice_get_within}
use Rattle.all_packages.specs.Progress.{imports_at}
use Rattle.all_packages.specs.Reports.{AreReports}
use Rattle.declared_tables.specs.DeclaredTables.{table_view as kept_view}
use Rattle.explanations.specs.Right.{AreJudgedBy}
use Rattle.imports.proofs.GivenImports.{table_imports, imports_table}
use Rattle.imports.proofs.Membership.{made_of, makes}
use Rattle.imports.specs.Ranks.{Imports}
use Rattle.meaning_reports.proofs.ImportsOf.{given_in_lists}
use Rattle.meaning_reports.specs.Loaded.{LoadedPackage, Tables, import_list}
use Rattle.one_package.proofs.FirstJudged.{found_at, is_found}
use Rattle.one_package.proofs.ImportedTables.{tables_so}
use Rattle.given_packages.proofs.NearGiven.{near_given}
use Rattle.one_package.proofs.ToldImports.{is_told, judged_are_told, was_judged}
use Rattle.given_packages.specs.Given.{TellsGiven}
use Rattle.one_package.specs.Judgments.{said_view, table_view}
use Rattle.given_packages.specs.Neighbours.{nearby_in}
use Rattle.one_package.specs.Results.{judged_at, told_by, AllMarked, AreTold, HaveTheirTables, KeptTold}
use Rattle.given_packages.specs.declared.given.Given.{Given}
use Rattle.one_package.specs.declared.judged.Judged.{Judged}
use Rattle.path_faults.proofs.Places.{element_at}
use Rattle.whole_packages.specs.declared.loaded_package.LoadedPackage.{LoadedPackage as KeptPackage}
use Rattle.whole_packages.specs.LoadedViews.{HaveDistinctPaths, TellPackages}

module _ (declared : Tables) (ps : List LoadedPackage) (tables : Tables) (judged : List Judged)
    (right : AreJudgedBy declared ps tables judged) (i : ℕ) where
  abbrev pub js : List Judged
  js = filter_map (slice_get judged) (imports_at ps i)

  -- it was judged, and is of a package that is imported
  record WasThere (j : Judged) : Type 0 where
    place : ℕ
    found : LoadedPackage
    is_there : slice_get ps place ≡ Some found
    imports : Imports (import_list ps) i place
    is_judged : slice_get judged place ≡ Some j
    is_path : j.report.path.now ≡ found.path

  was_there : (j : Judged) → Contains js j → WasThere j
  was_there j h =
      let row = made_of (slice_get judged) (imports_at ps i) j h in
      let im = table_imports (import_list ps) i row.0 row.1 in
      let q = given_in_lists ps row.0 im.imported im.is_imported in
      record {
        place = row.0;
        found = q.0;
        is_there = q.1;
        imports = im;
        is_judged = row.2;
        is_path = (right.each row.0 q.0 j q.1 row.2).is_path;
      }

  are_marked : AllMarked js
  are_marked j h = let w = was_there j h in right.are_marked w.place j w.is_judged

  judged_there : (k : ℕ) (q : LoadedPackage) → slice_get ps k ≡ Some q → (j : Judged) × (slice_get judged k ≡ Some j)
  judged_there k q is =
      let l = slice_get_within ps k q is in
      let size = right.are_as_many in
      let w = element_at judged k (omega (arith, l, size)) in
      (w.0, w.2)

  in_row : (k : ℕ) (q : LoadedPackage) → Imports (import_list ps) i k → slice_get ps k ≡ Some q
      → is_some (judged_at js q.path) ≡ true
  in_row k q im is =
      let j = judged_there k q is in
      is_found js j.0 (makes (slice_get judged) (imports_at ps i) k j.0 (imports_table (import_list ps) i k im) j.1)
      q.path (right.each k q j.0 is j.1).is_path

  pub are_told : AreTold ps i (told_by js)
  are_told = judged_are_told ps i js (record {
    of_imports = λ j h.
        let w = was_there j h in
        record { place = w.place; imported = w.found; is_there = w.is_there; imports = w.imports; is_path = w.is_path };
    are_all = λ k q im is rank. in_row k q im is;
    are_marked = are_marked;
  })

  module _ (distinct : HaveDistinctPaths ps) (p : LoadedPackage) (is_p : slice_get ps i ≡ Some p) (given : Given)
      (tells : TellsGiven declared ps given) where
    own_table : (k : ℕ) (q : LoadedPackage) (j : Judged) → Imports (import_list ps) i k → slice_get ps k ≡ Some q
        → judged_at js q.path ≡ Some j
        → tables q.path ≡ table_view j
    own_table k q j im is found =
        let w = found_at js q.path j found in
        let t = was_there j w.0 in
        let same : t.place ≡ k = distinct.same t.place k t.found q t.is_there is (sym t.is_path ∙ w.1) in
        sym (right.each k q j is (ap (slice_get judged) (sym same) ∙ t.is_judged)).is_table

    pub have_tables : HaveTheirTables (nearby_in given) p tables (told_by js)
    have_tables =
        tables_so ps i p is_p (nearby_in given) declared (near_given declared ps given tells p) (told_by js) tables
        are_told.of_imports
        (λ k q one im is told.
        let w = was_judged (judged_at js q.path) one told in
        own_table k q w.0 im is w.1 ∙ ap (λ (kept : KeptTold). kept_view kept.table) w.2)
        (λ k q im is none.
        absurd (false≢true (sym (ap is_some none) ∙ is_told (judged_at js q.path) (in_row k q im is))))
        (λ path none. right.are_tables.of_others path none)

-- What is said right of all packages is right by the tables of the report.

pub by_tables : (declared : Tables) (ps : List LoadedPackage) (kept : List KeptPackage) (judged : List Judged)
    → TellPackages ps kept
    → (reports : AreReports declared ps kept judged)
    → AreJudgedBy declared ps reports.is_report.tables judged
by_tables declared ps kept judged tell reports =
    let size : length judged ≡ length ps =
    sym (length-map judged said_view) ∙ reports.is_report.is_as_long in
    record {
      are_tables = reports.is_report.are_tables;
      are_as_many = size;
      each = λ i p j is is_j.
          reports.is_report.of_package i p (said_view j) is
          (slice_get-map said_view judged i ∙ ap (option_map said_view) is_j);
      are_marked = λ i j is_j.
          let l = slice_get_within judged i j is_j in
          let as_many = tell.are_as_many in
          let k = element_at kept i (omega (arith, l, size, as_many)) in
          (reports.are_told i k.0 j k.2 is_j).is_marked;
    }
