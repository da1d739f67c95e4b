-- Results of the packages that a package imports, in the order of its imports, as what is said of its imports by their
-- paths.
use Rattle.std.proofs.Common.{◌≡◌, ℕ, true, List, map, Contains, Option, Some, None, option_map, is_some, refl, sym, ap, ◌∙◌, subst}
use Rattle.std.specs.Prelude.{slice_get}
use Rattle.std.proofs.lemmas.Option.{none-some, same_Some}
use Rattle.meaning.proofs.Membership.{contains_map, contains_unmap}
use Rattle.imports.specs.Ranks.{Imports}
use Rattle.imports.proofs.GivenImports.{table_imports, imports_table}
use Rattle.whole_packages.specs.declared.loaded_package.LoadedPackage.{LoadedPackage as KeptPackage}
use Rattle.whole_packages.specs.LoadedViews.{HaveDistinctPaths, TellPackages}
use Rattle.meaning_reports.proofs.ImportsOf.{given_in_lists}
use Rattle.meaning_reports.specs.Loaded.{LoadedPackage, import_list}
use Rattle.meaning_reports.specs.PackageReports.{Rules}
use Rattle.gathering.specs.Results.{IsResult, AreResults}
use Rattle.one_package.specs.declared.judged.Judged.{Judged}
use Rattle.one_package.specs.Certified.{CertificateRule}
use Rattle.one_package.specs.Judgments.{said_view}
use Rattle.declared_tables.specs.MarkedGivers.{MarksGivers}
use Rattle.one_package.specs.Results.{judged_at, said_at, results_by_path, AreImported}
use Rattle.all_packages.proofs.KeptPackages.{kept_of}
use Rattle.one_package.proofs.FirstJudged.{found_at, is_found}
use Rattle.package_workers.specs.Results.{Kept, place_of, judged_of, imports_at, IsRight}

-- each is right of the package of its place
abbrev pub AreRightEach : Rules → CertificateRule → List KeptPackage → List Kept → Type 0
AreRightEach rules rule kept ks = (k : Kept) → Contains ks k → IsRight rules rule kept k.place k.judged

-- it is said of a package that is imported
record IsThere (ps : List LoadedPackage) (i : ℕ) (ks : List Kept) (j : Judged) : Type 0 where
  one : Kept
  is_one : Contains ks one
  is_said : one.judged ≡ j
  found : LoadedPackage
  is_there : slice_get ps one.place ≡ Some found
  imports : Imports (import_list ps) i one.place
  is_path : j.report.path.now ≡ found.path

module _ (rules : Rules) (rule : CertificateRule) (kept : List KeptPackage) (ks : List Kept)
    (each : AreRightEach rules rule kept ks) (ps : List LoadedPackage) (tell : TellPackages ps kept) (i : ℕ)
    (row : map place_of ks ≡ imports_at (import_list ps) i) where
  abbrev pub js : List Judged
  js = map judged_of ks

  -- it has the path of its package
  one_path : (k : Kept) → Contains ks k → (q : LoadedPackage) → slice_get ps k.place ≡ Some q
      → k.judged.report.path.now ≡ q.path
  one_path k h q is =
      let o = kept_of ps kept tell k.place q is in ((each k h).are_sources o.0 o.1).is_path ∙ sym o.2

  one_there : (k : Kept) → Contains ks k → IsThere ps i ks k.judged
  one_there k h =
      let at : Contains (imports_at (import_list ps) i) k.place =
      subst (λ places. Contains places k.place) row (contains_map place_of ks k h) in
      let im = table_imports (import_list ps) i k.place at in
      let q = given_in_lists ps k.place im.imported im.is_imported in
      record {
        one = k;
        is_one = h;
        is_said = refl;
        found = q.0;
        is_there = q.1;
        imports = im;
        is_path = one_path k h q.0 q.1;
      }

  was_there : (j : Judged) → Contains js j → IsThere ps i ks j
  was_there j h =
      let w = contains_unmap judged_of ks j h in subst (IsThere ps i ks) w.2 (one_there w.0 w.1)

  in_row : (k : ℕ) (q : LoadedPackage) → Imports (import_list ps) i k → slice_get ps k ≡ Some q
      → is_some (judged_at js q.path) ≡ true
  in_row k q im is =
      let at : Contains (map place_of ks) k =
      subst (λ places. Contains places k) (sym row) (imports_table (import_list ps) i k im) in
      let w = contains_unmap place_of ks k at in
      is_found js w.0.judged (contains_map judged_of ks w.0 w.1) q.path
      (one_path w.0 w.1 q (ap (slice_get ps) w.2 ∙ is))

  -- they are of the packages that it imports, and of all of these
  pub are_imported : AreImported ps i js
  are_imported = record {
    of_imports = λ j h.
        let w = was_there j h in
        record { place = w.one.place; imported = w.found; is_there = w.is_there; imports = w.imports; is_path = w.is_path };
    are_all = λ k q im is rank. in_row k q im is;
    are_marked = λ j h.
        let w = was_there j h in
        let o = kept_of ps kept tell w.one.place w.found w.is_there in
        subst (λ (judged : Judged). MarksGivers judged.table) w.is_said
        ((each w.one w.is_one).are_sources o.0 o.1).is_marked;
  }

  -- and each of them is a result
  pub are_results : HaveDistinctPaths ps → AreResults rules ps (results_by_path ps js)
  are_results distinct k q said is found = by (judged_at js q.path) refl (sym (ap (said_at js) is) ∙ found)
    where
      by : (o : Option Judged) → judged_at js q.path ≡ o → option_map said_view o ≡ Some said → IsResult rules ps k q said
      by None e bad = absurd (none-some said bad)
      by (Some j) e its =
          let w = found_at js q.path j e in
          let t = was_there j w.0 in
          let same : t.one.place ≡ k = distinct.same t.one.place k t.found q t.is_there is (sym t.is_path ∙ w.1) in
          let here : slice_get ps t.one.place ≡ Some q = ap (slice_get ps) same ∙ is in
          let right : IsResult rules ps t.one.place q (said_view t.one.judged) =
          (each t.one t.is_one).is_result ps q tell distinct here in
          subst (IsResult rules ps k q) (ap said_view t.is_said ∙ same_Some (said_view j) said its)
          (subst (λ n. IsResult rules ps n q (said_view t.one.judged)) same right)
