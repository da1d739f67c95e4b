-- What the program keeps of packages as they were read, and what it stands for.
use Rattle.std.specs.Prelude.{ℕ, ◌≡◌, List, [], ◌∷◌, flat_map, length, map, Some, slice_get, string_bytes}
use Rattle.lexer.specs.declared.source.Source.{Source}
use Rattle.tree.specs.Syntax.{SourceFile}
use Rattle.tree.specs.View.{file_syntax}
use Rattle.imports.specs.Ranks.{Package}
use Rattle.meaning_reports.specs.MeantImports.{IsTreeButForImports}
pub use Rattle.meaning_reports.specs.Loaded.{HaveDistinctPaths}
use Rattle.meaning_reports.specs.Loaded.{Reading, has_tree, has_text_fault, has_tree_fault, LoadedPackage, NumberedTree, trees_from, trees_of, imports_of}
use Rattle.whole_packages.specs.declared.loaded_package.Reading.{Reading as KeptReading}
use Rattle.whole_packages.specs.declared.loaded_package.Reading.TheVariants.{Tree, NoTokens, NoTree}
use Rattle.whole_packages.specs.declared.loaded_package.LoadedPackage.{LoadedPackage as KeptPackage}
use Rattle.whole_packages.specs.declared.numbered.NumberedTree.{NumberedTree as KeptTree}

-- what became of the files, where the trees are those of the files that have one
abbrev pub readings_of : List KeptReading → List SourceFile → List Reading
readings_of [] trees = []
readings_of (Tree ∷ rs) [] = readings_of rs []
readings_of (Tree ∷ rs) (tree ∷ trees) = has_tree tree ∷ readings_of rs trees
readings_of (NoTokens at why ∷ rs) trees = has_text_fault at why ∷ readings_of rs trees
readings_of (NoTree at why ∷ rs) trees = has_tree_fault at why ∷ readings_of rs trees

-- what is kept is that package
pub record TellsPackage (p : LoadedPackage) (kept : KeptPackage) : Type 0 where
  pub is_path : p.path ≡ string_bytes kept.path
  pub is_edition : p.edition ≡ kept.edition
  pub are_files : p.files ≡ readings_of kept.readings.items (map file_syntax kept.trees.items)
  -- so the number of trees is right
  pub are_trees : trees_of p ≡ map file_syntax kept.trees.items
  -- and that of readings
  pub are_readings : length p.files ≡ length kept.readings.items
  -- each tree is that of its file's text, in that edition, but for the paths of imports
  pub are_of_texts : (i : ℕ) (s : Source) (tree : SourceFile)
      → slice_get kept.sources.items i ≡ Some s
      → slice_get p.files i ≡ Some (has_tree tree)
      → IsTreeButForImports p.edition s.bytes.items tree

pub record TellPackages (ps : List LoadedPackage) (kept : List KeptPackage) : Type 0 where
  pub are_as_many : length ps ≡ length kept
  pub each : (i : ℕ) (p : LoadedPackage) (k : KeptPackage)
      → slice_get ps i ≡ Some p
      → slice_get kept i ≡ Some k
      → TellsPackage p k

-- what it imports
abbrev pub kept_list : KeptPackage → Package
kept_list k = record {
  path = string_bytes k.path;
  imports = flat_map (λ tree. map (λ s. s.path) (imports_of tree)) (map file_syntax k.trees.items);
}

-- its trees, with the numbers of their files
abbrev pub kept_trees : KeptPackage → List NumberedTree
kept_trees k = trees_from 0 (readings_of k.readings.items (map file_syntax k.trees.items))

abbrev pub numbered_view : KeptTree → NumberedTree
numbered_view t = record { file = t.file; tree = file_syntax t.tree.now }
