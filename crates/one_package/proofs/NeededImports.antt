-- Of the imports that are not yes those are picked that the package needs to be.
use Rattle.std.proofs.Common.{◌≡◌, ℕ, Bool, true, ◌&&◌, List, Contains, Some, refl, sym, ap, ◌∙◌, subst}
use Rattle.std.specs.Prelude.{◌↔◌, slice_get}
use Rattle.std.proofs.lemmas.Bool.{and_parts, and_from}
use Rattle.std.proofs.lemmas.Option.{same_Some}
use Rattle.tree.specs.declared.edition.Edition.{Edition}
use Rattle.tree.specs.declared.edition.Edition.TheVariants.{First, Second}
use Rattle.calls_flags.specs.declared.told_file.ToldFile.{ToldFile}
use Rattle.calls_flags.specs.HandedOn.{files_hand}
use Rattle.imports.specs.Ranks.{Package, Imports}
use Rattle.imports.specs.Settling.{place_from}
use Rattle.imports.proofs.GivenImports.{there_first}
use Rattle.meaning_reports.specs.Loaded.{LoadedPackage, Tables, import_list, imported_paths}
use Rattle.meaning_reports.proofs.ImportsOf.{list_item, in_lists}
use Rattle.meaning_reports.specs.PackageReports.{Rules}
use Rattle.meaning_reports.specs.UsedImports.{IsNeeded, in_first, is_used, IsUsed}
use Rattle.one_package.specs.Judgments.{KnownAround, Surroundings, AreNotYes, ArePicked}
use Rattle.one_package.specs.Needed.{is_needed}
use Rattle.given_packages.proofs.ImportedNames.{import_path}

-- what is imported has the place of its path
placed : (ps : List LoadedPackage) (i j : ℕ) (q : LoadedPackage) → Imports (import_list ps) i j → slice_get ps j ≡ Some q
    → place_from q.path (import_list ps) 0 ≡ Some j
placed ps i j q im at =
    let same = ap (λ (l : Package). l.path) (same_Some im.imported (list_item ps q) (sym im.is_imported ∙ in_lists ps j q at)) in
    there_first (import_list ps) q.path j record {
      found = im.imported;
      is_found = im.is_imported;
      same = same;
      first = λ k l is e. im.is_first k l is (e ∙ sym same);
    }

module _ (ps : List LoadedPackage) (tables : Tables) (i : ℕ) (p : LoadedPackage) (is_p : slice_get ps i ≡ Some p)
    (around : Surroundings) (known : KnownAround ps tables p around) (files : List ToldFile)
    (are_used : (path : List ℕ) → (files_hand path files ≡ true) ↔ IsUsed ps tables i path) where
  module _ (j : ℕ) (path : List ℕ) (place : place_from path (import_list ps) 0 ≡ Some j)
      (names : Contains (imported_paths p) path) where
    needed_so : (edition : Edition) → p.edition ≡ edition → is_needed edition around files path ≡ true
        → IsNeeded ps tables i j path
    needed_so First is e = in_first is_p is
    needed_so Second is e =
        let both = and_parts (files_hand path files) (around.counted path) e in
        is_used (sym (known.are_counted path j names place) ∙ both.1) ((are_used path).0 both.0)

    so_needed : (edition : Edition) → p.edition ≡ edition → IsNeeded ps tables i j path
        → is_needed edition around files path ≡ true
    so_needed First is needed = refl
    so_needed Second is (in_first is_its first) =
        let bad : First ≡ Second = sym first ∙ ap (λ (q : LoadedPackage). q.edition) (same_Some _ p (sym is_its ∙ is_p)) ∙ is in
        cc
    so_needed Second is (is_used counted used) =
        and_from (files_hand path files) (around.counted path) ((are_used path).1 used)
        (known.are_counted path j names place ∙ counted)

  module _ (rules : Rules) (edition : Edition) (is : p.edition ≡ edition) (not_yes : List ℕ → Bool)
      (are : AreNotYes rules ps tables i not_yes) where
    pub picked_so : ArePicked rules ps tables i (λ path. not_yes path && is_needed edition around files path)
    picked_so = record {
      of_imports = λ j q im at.
          let place = placed ps i j q im at in
          let names = import_path ps i j p q is_p at im in (
            λ e.
                let both = and_parts (not_yes q.path) (is_needed edition around files q.path) e in
                ((are.of_imports j q im at).0 both.0, needed_so j q.path place names edition is both.1),
            λ h.
                and_from (not_yes q.path) (is_needed edition around files q.path) ((are.of_imports j q im at).1 h.0)
                (so_needed j q.path place names edition is h.1),
          );
      are_given = λ path e. are.are_given path (and_parts (not_yes path) (is_needed edition around files path) e).0;
    }
