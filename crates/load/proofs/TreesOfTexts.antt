-- The trees of loaded packages are those of texts.
use Rattle.std.proofs.Common.{◌≡◌, ℕ, ◌+◌, zero, suc, inl, inr, List, [], ◌∷◌, map, Some, Contains, sym, subst}
use Rattle.std.specs.Prelude.{slice_get}
use Rattle.lexer.specs.declared.source.Source.{Source}
use Rattle.tree.specs.declared.edition.Edition.{Edition}
use Rattle.tree.specs.Syntax.{SourceFile}
use Rattle.meaning.proofs.Membership.{contains_cases, contains_nil}
use Rattle.meaning_reports.specs.MeantImports.{IsTreeButForImports}
use Rattle.meaning_reports.specs.Loaded.{Reading, has_tree, has_text_fault, has_tree_fault, LoadedPackage, NumberedTree, trees_from}
use Rattle.whole_packages.specs.declared.loaded_package.LoadedPackage.{LoadedPackage as KeptPackage}
use Rattle.meaning_runs.specs.Promise.{AreTreesOfTexts}
use Rattle.load.specs.MeantPaths.{MeantPath}
use Rattle.load.specs.Readings.{AreReadingsOf}
use Rattle.load.specs.GivenPackages.{paths_of, PathAndFiles, AreLoaded}
use Rattle.load.proofs.MeantTrees.{of_meant}

abbrev tree_in : NumberedTree → SourceFile
tree_in t = t.tree

read_trees : (edition : Edition) (paths : List MeantPath) (sources : List Source) (files : List Reading)
    → AreReadingsOf edition paths sources files
    → (n : ℕ) (tree : SourceFile) → Contains (map tree_in (trees_from n files)) tree
    → (text : List ℕ) × IsTreeButForImports edition text tree
read_trees edition paths [] [] are n tree h = absurd (contains_nil tree h)
read_trees edition paths [] (r ∷ rs) are n tree h = absurd are
read_trees edition paths (s ∷ ss) [] are n tree h = absurd are
read_trees edition paths (s ∷ ss) (has_tree t ∷ rs) are n tree h =
    elim (contains_cases t tree (map tree_in (trees_from (n + 1) rs)) h) [
      | inl q ↦ (
        s.bytes.items,
        subst (λ x. IsTreeButForImports edition s.bytes.items x) q (of_meant edition paths s.bytes.items t are.0),
      )
      | inr later ↦ read_trees edition paths ss rs are.1 (n + 1) tree later
    ]
read_trees edition paths (s ∷ ss) (has_text_fault at why ∷ rs) are n tree h = read_trees edition paths ss rs are.1 (n + 1) tree h
read_trees edition paths (s ∷ ss) (has_tree_fault at why ∷ rs) are n tree h = read_trees edition paths ss rs are.1 (n + 1) tree h

none_there : {p : LoadedPackage} (n : ℕ) → slice_get {X = LoadedPackage} [] n ≡ Some p → ⊥
none_there zero e = cc
none_there (suc n) e = cc

pub of_texts : (es : List PathAndFiles) (ps : List LoadedPackage) (ks : List KeptPackage) → AreLoaded es ps ks → (i : ℕ) (p : LoadedPackage) → slice_get ps i ≡ Some p → AreTreesOfTexts p
of_texts [] [] ks h i p is = absurd (none_there i is)
of_texts (e ∷ es) [] ks h i p is = absurd (none_there i is)
of_texts [] (q ∷ qs) ks h i p is = absurd h
of_texts (e ∷ es) (q ∷ qs) [] h i p is = absurd h
of_texts (e ∷ es) (q ∷ qs) (k ∷ ks) h zero p is =
    let same : q ≡ p = cc in
    subst AreTreesOfTexts same λ tree among.
    let text = read_trees e.1.edition (paths_of e.1.imports) k.sources.items q.files h.0.are_files 0 tree among in
    (text.0, subst (λ edition. IsTreeButForImports edition text.0 tree) (sym h.0.is_edition) text.1)
of_texts (e ∷ es) (q ∷ qs) (k ∷ ks) h (suc i) p is = of_texts es qs ks h.1 i p is
