-- The numbers of loaded packages can be written in certificates: a package has at most so many files, and each parameter
-- that is known to be called is one of few.
use Rattle.std.proofs.Common.{◌≡◌, ℕ, suc, ◌+◌, ◌<◌, ◌≤◌, ◌^◌, Bool, true, false, ◌||◌, List, [], ◌∷◌, map, length, nat_lt, Some, Contains, refl, sym, ap, ◌∙◌, subst, arith}
use Rattle.std.specs.Prelude.{slice_get}
use Rattle.std.specs.List.{list_any}
use Rattle.std.proofs.lemmas.Bool.{false≢true, ltb-false}
use Rattle.std.proofs.lemmas.List.{length-map}
use Rattle.std.proofs.lemmas.List.Sorted.{Contains-permutation, IsPermutation-sym, length_permutation}
use Rattle.std.proofs.lemmas.Option.{slice_get_within}
use Rattle.judge.proofs.CertificateAgreement.{some_facts}
use Rattle.judge.proofs.FewParameters.{positions_fit}
use Rattle.judge.proofs.PackageFiles.{file_seen_at}
use Rattle.judge.specs.CertificateLaws.{CanBeWritten}
use Rattle.judge.proofs.LoadedPackages.{are_as_many, each_loaded}
use Rattle.judge.proofs.SourcePlaces.{there}
use Rattle.lexer.specs.declared.source.Source.{Source}
use Rattle.load.specs.GivenPackages.{PathAndFiles, entry_of, paths_of, has_many_files, AreLoadable, IsLoad}
use Rattle.load.specs.MeantPaths.{MeantPath}
use Rattle.load.specs.Readings.{AreReadingsOf}
use Rattle.load.specs.declared.packages.GivenPackage.{GivenPackage}
use Rattle.load.specs.declared.packages.TheConstants.{MOST_PACKAGES, MOST_FILES}
use Rattle.meaning.proofs.Membership.{contains_unmap}
use Rattle.meaning.specs.FunctionFacts.{cancel}
use Rattle.meaning.specs.Uses.{Seen, facts_take}
use Rattle.meaning_reports.specs.Loaded.{Reading, has_tree, has_text_fault, has_tree_fault, LoadedPackage, NumberedTree, Tables, trees_from, trees_of, numbered_trees, means_in, signatures_of}
use Rattle.meaning_reports.specs.PackageTables.{IsTableBy, empty, full, AreTables, AreFlagsByPaths}
use Rattle.meaning_runs.specs.Promise.{AreTreesOfTexts}
use Rattle.path_faults.proofs.Places.{place_of, any_holds}
use Rattle.tree.specs.declared.edition.Edition.{Edition}
use Rattle.whole_packages.specs.declared.loaded_package.LoadedPackage.{LoadedPackage as KeptPackage}

-- Files

few_trees : (n : ℕ) (rs : List Reading) → length (trees_from n rs) ≤ length rs
few_trees n [] = omega arith
few_trees n (has_tree t ∷ rs) = let rest = few_trees (n + 1) rs in omega (arith, rest)
few_trees n (has_text_fault at why ∷ rs) = let rest = few_trees (n + 1) rs in omega (arith, rest)
few_trees n (has_tree_fault at why ∷ rs) = let rest = few_trees (n + 1) rs in omega (arith, rest)

as_many_read : (edition : Edition) (paths : List MeantPath) (sources : List Source) (rs : List Reading)
    → AreReadingsOf edition paths sources rs
    → length rs ≡ length sources
as_many_read edition paths [] [] h = refl
as_many_read edition paths [] (r ∷ rs) h = absurd h
as_many_read edition paths (s ∷ ss) [] h = absurd h
as_many_read edition paths (s ∷ ss) (r ∷ rs) h = ap suc (as_many_read edition paths ss rs h.1)

no_or : (x y : Bool) → (x || y) ≡ false → y ≡ false
no_or true y e = let bad : true ≡ false = e in cc
no_or false y e = e

few_files : (given : List GivenPackage) → AreLoadable given → (g : GivenPackage) → Contains given g
    → length g.sources.items ≤ MOST_FILES
few_files given can g h = by (has_many_files g) refl
  where
    none : list_any has_many_files given ≡ false
    none = no_or (nat_lt MOST_PACKAGES (length given)) (list_any has_many_files given) can.few

    by : (b : Bool) → has_many_files g ≡ b → length g.sources.items ≤ MOST_FILES
    by true e = absurd (false≢true (sym none ∙ any_holds has_many_files given g h e))
    by false e = ltb-false MOST_FILES (length g.sources.items) e

module _ (given : List GivenPackage) (kept : List KeptPackage) (can : AreLoadable given) (load : IsLoad given kept) where
  files_fit : (i : ℕ) (p : LoadedPackage) → slice_get load.meant i ≡ Some p → length (trees_of p) ≤ 2 ^ 32
  files_fit i p is =
      let within = slice_get_within load.meant i p is in
      let long = are_as_many load.in_order load.meant kept load.are_loaded in
      let k = there kept i (omega (arith, within, long)) in
      let own = each_loaded load.in_order load.meant kept load.are_loaded i p k.0 is k.1 in
      let entry = Contains-permutation load.in_order (map entry_of given) own.of
      (IsPermutation-sym (map entry_of given) load.in_order load.same) own.is_given in
      let g = contains_unmap entry_of given own.of entry in
      let few : length own.of.1.sources.items ≤ MOST_FILES =
      subst (λ (e : PathAndFiles). length e.1.sources.items ≤ MOST_FILES) g.2 (few_files given can g.0 g.1) in
      let same = length_permutation own.of.1.sources.items k.0.sources.items own.loaded.by_name.same in
      let read = as_many_read own.of.1.edition (paths_of own.of.1.imports) k.0.sources.items p.files own.loaded.are_files in
      let trees = few_trees 0 p.files in
      let counted = length-map (numbered_trees p) (λ (t : NumberedTree). t.tree) in
      omega (arith, few, same, read, trees, counted)

-- Positions

module _ (declared : Tables) (ps : List LoadedPackage) (tables : Tables) (are : AreTables declared ps tables) (i : ℕ)
    (p : LoadedPackage) (is : slice_get ps i ≡ Some p) (texts : AreTreesOfTexts p) where
  calls_fit : (name : List ℕ) (k : ℕ) → (tables p.path).calls name k ≡ true → k < 2 ^ 32
  calls_fit name k known = by (are.of_package i p is)
    where
      by : IsTableBy AreFlagsByPaths ps tables i p (tables p.path) → k < 2 ^ 32
      by (empty x fault nothing) = absurd (false≢true (sym (nothing.no_flag name k) ∙ known))
      by (full flags none its signatures calls told) =
          let judged = its.is_judged in
          let kept = judged.are_flags.are_consistent.each name k (sym (calls name k) ∙ known) in
          let place = place_of its.files kept.file kept.is_of_package in
          let w = file_seen_at ps tables p its.files judged.are_files place.0 kept.file place.1 in
          let functions : signatures_of ps p name ≡ kept.file.seen.known.functions name =
          ap (λ (s : Seen). s.known.functions name) w.2 in
          let facts = some_facts k (signatures_of ps p name)
          (ap (facts_take cancel k) functions ∙ kept.is_claim.is_cancel_parameter) in
          positions_fit p.edition (means_in ps p) name 0 (trees_of p) facts.0 texts facts.1 k facts.2

pub can_be_written : (given : List GivenPackage) (kept : List KeptPackage) (can : AreLoadable given) (load : IsLoad given kept)
    (declared tables : Tables)
    → AreTables declared load.meant tables
    → ((i : ℕ) (p : LoadedPackage) → slice_get load.meant i ≡ Some p → AreTreesOfTexts p)
    → (i : ℕ) (p : LoadedPackage) → slice_get load.meant i ≡ Some p
    → CanBeWritten tables p
can_be_written given kept can load declared tables are texts i p is = record {
  files_fit = files_fit given kept can load i p is;
  positions_fit = calls_fit declared load.meant tables are i p is (texts i p is);
}
