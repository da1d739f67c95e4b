-- Whether a package counts as given is told by what is kept of it.
use Rattle.std.proofs.Common.{◌≡◌, ℕ, suc, ◌≤◌, Bool, List, [], ◌∷◌, map, length, refl, sym, ap, ◌∙◌, arith}
use Rattle.std.specs.Prelude.{◌&&◌, not, is_some}
use Rattle.std.specs.List.{list_all}
use Rattle.tree.specs.declared.edition.Edition.{Edition}
use Rattle.tree.specs.Syntax.{SourceFile}
use Rattle.tree.specs.View.{file_syntax}
use Rattle.meaning.specs.TwoFunctions.{second_function}
use Rattle.meaning_reports.specs.Loaded.{LoadedPackage, is_read, is_whole, counts_by, counts_as_given}
use Rattle.whole_packages.specs.declared.loaded_package.Reading.{Reading as KeptReading}
use Rattle.whole_packages.specs.declared.loaded_package.Reading.TheVariants.{Tree, NoTokens, NoTree}
use Rattle.whole_packages.specs.declared.loaded_package.LoadedPackage.{LoadedPackage as KeptPackage}
use Rattle.whole_packages.specs.LoadedViews.{readings_of, TellsPackage}
use Rattle.whole_packages.specs.CountedViews.{is_tree, kept_counts, kept_whole}

no_more : (rs : List KeptReading) (trees : List SourceFile) → length (readings_of rs trees) ≤ length rs
no_more [] trees = omega arith
no_more (Tree ∷ rs) [] = let l = no_more rs [] in omega (arith, l)
no_more (Tree ∷ rs) (tree ∷ trees) = let l = no_more rs trees in omega (arith, l)
no_more (NoTokens at why ∷ rs) trees = let l = no_more rs trees in omega (arith, l)
no_more (NoTree at why ∷ rs) trees = let l = no_more rs trees in omega (arith, l)

all_read : (rs : List KeptReading) (trees : List SourceFile) → length (readings_of rs trees) ≡ length rs
    → list_all is_read (readings_of rs trees) ≡ list_all is_tree rs
all_read [] trees same = refl
all_read (Tree ∷ rs) [] same = let l = no_more rs [] in absurd (omega (arith, l, same))
all_read (Tree ∷ rs) (tree ∷ trees) same =
    let rest : length (readings_of rs trees) ≡ length rs = omega (arith, same) in all_read rs trees rest
all_read (NoTokens at why ∷ rs) trees same = refl
all_read (NoTree at why ∷ rs) trees same = refl

module _ (p : LoadedPackage) (k : KeptPackage) (tells : TellsPackage p k) where
  whole_told : is_whole p ≡ kept_whole k
  whole_told =
      let trees = map file_syntax k.trees.items in
      let size : length (readings_of k.readings.items trees) ≡ length k.readings.items =
      ap length (sym tells.are_files) ∙ tells.are_readings in
      let read : list_all is_read p.files ≡ list_all is_tree k.readings.items =
      ap (list_all is_read) tells.are_files ∙ all_read k.readings.items trees size in
      λ i. read i && not (is_some (second_function (tells.are_trees i)))

  pub counts_told : counts_as_given p ≡ kept_counts k
  counts_told =
      ap (λ (e : Edition). counts_by e (is_whole p)) tells.is_edition ∙ ap (counts_by k.edition) whole_told
