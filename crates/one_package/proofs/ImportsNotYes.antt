-- Which imports of a package are not yes, by what is told of its imports. Where it has no fault as a whole, it has a
-- rank, and so each of them has one.
use Rattle.std.proofs.Common.{◌≡◌, ℕ, Bool, true, false, List, Option, Some, None, option_map, refl, sym, ap, ◌∙◌}
use Rattle.std.specs.Prelude.{◌↔◌, not, slice_get}
use Rattle.std.proofs.lemmas.Bool.{false≢true}
use Rattle.imports.specs.Ranks.{HasRank, Imports, goes_on}
use Rattle.whole_packages.specs.WholeEntries.{is_set}
use Rattle.meaning_reports.proofs.ImportsOf.{cannot_be_unranked}
use Rattle.meaning_reports.specs.Loaded.{LoadedPackage, Tables, import_list}
use Rattle.meaning_reports.specs.PackageReports.{Rules}
use Rattle.meaning_reports.specs.WholeFaults.{HasNoWholeFault}
use Rattle.gathering.specs.Results.{HaveTold}
use Rattle.one_package.specs.Judgments.{AreNotYes, IsOfImport}
use Rattle.one_package.specs.Results.{KeptTold, ToldImports, told_view, told_at, tellings_by_path, not_yes_told, AreTold}
use Rattle.given_packages.proofs.ImportedNames.{some_from}

not_true : (b : Bool) → (not b ≡ true) ↔ (b ≡ false)
not_true true = (λ e. absurd (false≢true e), λ e. absurd (false≢true (sym e)))
not_true false = (λ e. refl, λ e. refl)

module _ (rules : Rules) (ps : List LoadedPackage) (i : ℕ) (p : LoadedPackage) (is_p : slice_get ps i ≡ Some p)
    (none : HasNoWholeFault ps i) (told : ToldImports) (are : AreTold ps i told) (tables : Tables)
    (have : HaveTold rules ps tables i (tellings_by_path ps told)) where
  rank_below : (j : ℕ) → Imports (import_list ps) i j → HasRank (import_list ps) j
  rank_below j im k l chain on back =
      cannot_be_unranked ps i p is_p none λ rank. rank k l (goes_on im chain) on back

  module _ (picked : List ℕ → Bool) (same : (path : List ℕ) → picked path ≡ is_set (not_yes_told told path)) where
    pub not_yes_so : AreNotYes rules ps tables i picked
    not_yes_so = record {
      of_imports = λ j q im is.
          let m = some_from (told q.path) (are.are_all j q im is (rank_below j im)) in
          let its = have.of_told j q (told_view m.0) im is (ap (told_at told) is ∙ ap (option_map told_view) m.1) in
          let mark : picked q.path ≡ not m.0.is_yes =
          same q.path ∙ ap (λ o. is_set (option_map (λ (one : KeptTold). not one.is_yes) o)) m.1 in (
            λ e. its.is_verdict.0 ((not_true m.0.is_yes).0 (sym mark ∙ e)),
            λ h. mark ∙ (not_true m.0.is_yes).1 (its.is_verdict.1 h),
          );
      are_given = λ path e. given path (told path) refl (sym (same path) ∙ e);
    }
      where
        given : (path : List ℕ) (o : Option KeptTold) → told path ≡ o
            → is_set (option_map (λ (one : KeptTold). not one.is_yes) o) ≡ true
            → IsOfImport ps i path
        given path None e set = absurd (false≢true set)
        given path (Some one) e set = are.of_imports path one e
