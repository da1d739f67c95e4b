-- What was judged of those that a package imports, by the places of these.
use Rattle.std.proofs.Common.{◌≡◌, ℕ, true, List, Contains, Option, Some, None, filter_map, option_map, is_some, refl, sym, ap, ◌∙◌}
use Rattle.std.specs.Prelude.{slice_get}
use Rattle.std.proofs.lemmas.Option.{none-some}
use Rattle.imports.specs.Ranks.{Imports}
use Rattle.imports.proofs.GivenImports.{table_imports, imports_table}
use Rattle.imports.proofs.Membership.{made_of, makes}
use Rattle.whole_packages.specs.declared.loaded_package.LoadedPackage.{LoadedPackage as KeptPackage}
use Rattle.whole_packages.specs.LoadedViews.{HaveDistinctPaths, TellPackages}
use Rattle.meaning_reports.proofs.ImportsOf.{given_in_lists}
use Rattle.meaning_reports.specs.Loaded.{LoadedPackage, import_list}
use Rattle.meaning_reports.specs.PackageReports.{Rules}
use Rattle.gathering.specs.Results.{IsResult, AreResults}
use Rattle.one_package.specs.declared.judged.Judged.{Judged}
use Rattle.one_package.specs.Certified.{CertificateRule}
use Rattle.one_package.specs.Judgments.{said_view}
use Rattle.all_packages.specs.Progress.{Slots, slot_at, imports_at, AreRight, IsReady}
use Rattle.one_package.specs.Results.{judged_at, said_at, results_by_path, AllMarked, AreImported}
use Rattle.all_packages.proofs.KeptPackages.{kept_of}
use Rattle.one_package.proofs.FirstJudged.{found_at, is_found}
use Rattle.given_packages.proofs.ImportedNames.{some_from}

-- it was judged, and is of a package that is imported
record WasThere (ps : List LoadedPackage) (slots : Slots) (i : ℕ) (j : Judged) : Type 0 where
  place : ℕ
  found : LoadedPackage
  is_there : slice_get ps place ≡ Some found
  imports : Imports (import_list ps) i place
  is_slot : slot_at slots place ≡ Some j
  is_path : j.report.path.now ≡ found.path

module _ (rules : Rules) {rule : CertificateRule} (ps : List LoadedPackage) (kept : List KeptPackage)
    (tell : TellPackages ps kept) (slots : Slots) (right : AreRight rules rule ps kept slots) where
  -- what was judged has the path of its package
  pub slot_path : (n : ℕ) (q : LoadedPackage) (j : Judged) → slice_get ps n ≡ Some q → slot_at slots n ≡ Some j
      → j.report.path.now ≡ q.path
  slot_path n q j is slot =
      let k = kept_of ps kept tell n q is in (right.are_told n q k.0 j is k.1 slot).is_path ∙ sym k.2

  module _ (i : ℕ) where
    abbrev pub js : List Judged
    js = filter_map (slot_at slots) (imports_at ps i)

    was_there : (j : Judged) → Contains js j → WasThere ps slots i j
    was_there j h =
        let row = made_of (slot_at slots) (imports_at ps i) j h in
        let im = table_imports (import_list ps) i row.0 row.1 in
        let q = given_in_lists ps row.0 im.imported im.is_imported in
        record {
          place = row.0;
          found = q.0;
          is_there = q.1;
          imports = im;
          is_slot = row.2;
          is_path = slot_path row.0 q.0 j q.1 row.2;
        }

    -- their tables have the flags of their givers
    pub are_marked : AllMarked js
    are_marked j h =
        let w = was_there j h in
        let k = kept_of ps kept tell w.place w.found w.is_there in
        (right.are_told w.place w.found k.0 j w.is_there k.1 w.is_slot).is_marked

    in_row : (k : ℕ) (q : LoadedPackage) → Imports (import_list ps) i k → slice_get ps k ≡ Some q
        → is_some (slot_at slots k) ≡ true
        → is_some (judged_at js q.path) ≡ true
    in_row k q im is was =
        let j = some_from (slot_at slots k) was in
        is_found js j.0 (makes (slot_at slots) (imports_at ps i) k j.0 (imports_table (import_list ps) i k im) j.1) q.path
        (slot_path k q j.0 is j.1)

    pub are_imported : IsReady ps slots i → AreImported ps i js
    are_imported ready = record {
      of_imports = λ j h.
          let w = was_there j h in
          record { place = w.place; imported = w.found; is_there = w.is_there; imports = w.imports; is_path = w.is_path };
      are_all = λ k q im is rank. in_row k q im is (ready k im rank q is);
      are_marked = are_marked;
    }

    pub results_so : HaveDistinctPaths ps → AreResults rules ps (results_by_path ps js)
    results_so distinct k q said is found = by (judged_at js q.path) refl (sym (ap (said_at js) is) ∙ found)
      where
        by : (o : Option Judged) → judged_at js q.path ≡ o → option_map said_view o ≡ Some said → IsResult rules ps k q said
        by None e bad = absurd (none-some said bad)
        by (Some j) e its =
            let w = found_at js q.path j e in
            let t = was_there j w.0 in
            let same : t.place ≡ k = distinct.same t.place k t.found q t.is_there is (sym t.is_path ∙ w.1) in
            let slot : slot_at slots k ≡ Some j = ap (slot_at slots) (sym same) ∙ t.is_slot in
            right.are_results k q said is (ap (option_map said_view) slot ∙ its)
