-- Imports with a dot, of which the second edition's trees have some. Such an import declares nothing here: no use has a
-- dot for its name. So it is left out where a name of that package would say something: where the package is `context`
-- or `errgroup`, and where its table tells of something that is tracked. (That of a package with a fault as a whole
-- tells of nothing, as that of one that was not given.) That is a fault of the importing package's files, which stands
-- at the dot.
-- (The Go specification, "Import declarations"; this tool's rules.)
use Rattle.std.specs.Prelude.{ℕ, ◌≡◌, true, List, Some, slice_get, codes, Contains}
use Rattle.tree.specs.Syntax.{Identifier, ImportSpec}
use Rattle.meaning.specs.Grammar.{dot_text}
use Rattle.meaning.specs.OuterBlocks.{is_first_path}
use Rattle.report.specs.declared.codes.DiagnosticCode.TheVariants.{LeftOut}
use Rattle.report.specs.declared.codes.TreeFault.TheVariants.{DotImport}
use Rattle.report.specs.Entries.{Entry}
use Rattle.meaning_reports.specs.Loaded.{LoadedPackage, Tables, NumberedTree, numbered_trees, imports_of, imported_tables}

-- a name of the package of that path would say something
pub data SaysSomething (tables : Tables) (path : List ℕ) : Type 0 where
  as_library : is_first_path path ≡ true → SaysSomething tables path
  by_table : (tables path).is_told ≡ true → SaysSomething tables path

-- an import with that dot, in the file of that number of the package at that place
pub record IsLeftOut (ps : List LoadedPackage) (tables : Tables) (i file : ℕ) (dot : Identifier) : Type 0 where
  pub importer : LoadedPackage
  pub tree : NumberedTree
  pub spec : ImportSpec
  pub is_importer : slice_get ps i ≡ Some importer
  pub is_tree : Contains (numbered_trees importer) tree
  pub is_file : tree.file ≡ file
  pub is_spec : Contains (imports_of tree.tree) spec
  pub is_its : spec.name ≡ Some dot
  pub is_dot : dot.text ≡ dot_text
  pub says_something : SaysSomething (imported_tables importer tables) spec.path

abbrev pub dot_entry : ℕ → Identifier → Entry
dot_entry file dot = record { file = file; offset = dot.span.start; code = LeftOut DotImport; name = codes "-" }
