-- Of which package an import is: of the one that its path means. A package may say of paths that stand in its files
-- for which others they do, as where another module's copy of a package is meant, or a package as it is built for
-- tests. And in the second edition `golang.org/x/net/context` means `context`, whose names it has.
-- (`ImportMap` of `go help list`; the documentation of `golang.org/x/net/context`.)
use Rattle.std.specs.Prelude.{◌≡◌, ℕ, List, [], ◌∷◌, map, if◌then◌else◌, codes, string_bytes}
use Rattle.std.specs.Str.{bytes_eq}
use Rattle.tree.specs.declared.edition.Edition.{Edition}
use Rattle.tree.specs.declared.edition.Edition.TheVariants.{First, Second}
use Rattle.tree.specs.Syntax.{SourceFile}
use Rattle.meaning.specs.TreeOfText.{IsTreeOf}
use Rattle.meaning_reports.specs.MeantImports.{Meant, with_meant_imports}
use Rattle.load.specs.declared.meant.MeantImport.{MeantImport}

-- a path that stands in files, and the one that it means
pub record MeantPath : Type 0 where
  pub written : List ℕ
  pub meant : List ℕ

abbrev pub meant_of : MeantImport → MeantPath
meant_of i = record { written = string_bytes i.written; meant = string_bytes i.meant }

-- what the first of these says of the path; else it means itself
abbrev pub mapped : List MeantPath → Meant
mapped [] path = path
mapped (p ∷ ps) path = if bytes_eq p.written path then p.meant else mapped ps path

-- the path of a package that has the names of `context`
abbrev pub net_context : List ℕ
net_context = codes "golang.org/x/net/context"

abbrev pub meant_in : Edition → Meant
meant_in First path = path
meant_in Second path = if bytes_eq path net_context then codes "context" else path

-- of which package an import with the path is, in a file of a package that says this of paths
abbrev pub meant_path : Edition → List MeantPath → Meant
meant_path edition paths path = meant_in edition (mapped paths path)

-- the tree of the text, but that each import has the path that is meant
pub record IsMeantTree (edition : Edition) (paths : List MeantPath) (text : List ℕ) (tree : SourceFile) : Type 0 where
  pub written : SourceFile
  pub is_tree : IsTreeOf edition text written
  pub same : with_meant_imports (meant_path edition paths) written ≡ tree
