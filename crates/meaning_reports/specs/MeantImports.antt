-- Trees whose imports are those of other paths than are written. A path that stands in a file may stand for another
-- one, that of the package which is meant. In the tree of a file that was loaded each import has the path that is
-- meant; its name, if one is written, and its place stay, and so does all else in the file.
-- (The Go specification, "Import declarations"; `ImportMap` of `go help list`.)
use Rattle.std.specs.Prelude.{◌≡◌, ℕ, List, map}
use Rattle.tree.specs.declared.edition.Edition.{Edition}
use Rattle.tree.specs.Syntax.{ImportSpec, ImportDeclaration, SourceFile}
use Rattle.meaning.specs.TreeOfText.{IsTreeOf}

-- for each path that is written the one that is meant
abbrev pub Meant : Type 0
Meant = List ℕ → List ℕ

abbrev pub meant_import : Meant → ImportSpec → ImportSpec
meant_import meant s = record s { path = meant s.path }

abbrev pub meant_imports : Meant → ImportDeclaration → ImportDeclaration
meant_imports meant d = record d { specs = map (meant_import meant) d.specs }

abbrev pub with_meant_imports : Meant → SourceFile → SourceFile
with_meant_imports meant file = record file { imports = map (meant_imports meant) file.imports }

-- the tree of a text but for the paths of its imports
pub record IsTreeButForImports (edition : Edition) (text : List ℕ) (tree : SourceFile) : Type 0 where
  pub meant : Meant
  pub written : SourceFile
  pub is_tree : IsTreeOf edition text written
  pub same : with_meant_imports meant written ≡ tree
