-- Faults of a whole package: a file without a tree, two functions of one name, and an import of a given package that
-- has no rank, in a package that has none. A package with such a fault has only such faults, and its table is empty.
use Rattle.std.specs.Prelude.{ℕ, ◌≡◌, List, Some, slice_get, codes, Contains}
use Rattle.tree.specs.Syntax.{ImportSpec}
use Rattle.meaning.specs.TwoFunctions.{FunctionName, second_function}
use Rattle.report.specs.declared.codes.DiagnosticCode.{DiagnosticCode}
use Rattle.report.specs.declared.codes.DiagnosticCode.TheVariants.{Unreadable, LeftOut, ImportHasNoRank, TwoFunctions}
use Rattle.report.specs.declared.codes.TextFault.{TextFault}
use Rattle.report.specs.declared.codes.TreeFault.{TreeFault}
use Rattle.report.specs.Entries.{Entry}
use Rattle.imports.specs.Ranks.{Imports, HasRank}
use Rattle.meaning_reports.specs.Loaded.{has_text_fault, has_tree_fault, LoadedPackage, NumberedTree, numbered_trees, trees_of, imports_of, import_list}

-- an import, in the file of that number, of the package `j` by the package `i`
pub record ImportsAt (ps : List LoadedPackage) (i j : ℕ) (file : ℕ) (spec : ImportSpec) : Type 0 where
  pub importer : LoadedPackage
  pub imported : LoadedPackage
  pub tree : NumberedTree
  pub is_importer : slice_get ps i ≡ Some importer
  pub is_imported : slice_get ps j ≡ Some imported
  pub imports : Imports (import_list ps) i j
  pub is_tree : Contains (numbered_trees importer) tree
  pub is_file : tree.file ≡ file
  pub is_spec : Contains (imports_of tree.tree) spec
  pub is_path : spec.path ≡ imported.path

-- what is said of an import stands at its path
abbrev pub import_entry : ℕ → ImportSpec → DiagnosticCode → Entry
import_entry file spec code = record { file = file; offset = spec.path_span.start; code = code; name = spec.path }

pub data IsWholeFault (ps : List LoadedPackage) (i : ℕ) : Entry → Type 0 where
  has_no_tokens : (p : LoadedPackage) (file at : ℕ) (why : TextFault)
      → slice_get ps i ≡ Some p
      → slice_get p.files file ≡ Some (has_text_fault at why)
      → IsWholeFault ps i record { file = file; offset = at; code = Unreadable why; name = codes "-" }
  has_no_tree : (p : LoadedPackage) (file at : ℕ) (why : TreeFault)
      → slice_get ps i ≡ Some p
      → slice_get p.files file ≡ Some (has_tree_fault at why)
      → IsWholeFault ps i record { file = file; offset = at; code = LeftOut why; name = codes "-" }
  has_two_functions : (p : LoadedPackage) (f : FunctionName) (tree : NumberedTree)
      → slice_get ps i ≡ Some p
      → second_function (trees_of p) ≡ Some f
      → slice_get (numbered_trees p) f.file ≡ Some tree
      → IsWholeFault ps i
      record { file = tree.file; offset = f.name.span.start; code = TwoFunctions; name = f.name.text }
  has_no_rank : (j file : ℕ) (spec : ImportSpec)
      → (HasRank (import_list ps) i → ⊥)
      → (HasRank (import_list ps) j → ⊥)
      → ImportsAt ps i j file spec
      → IsWholeFault ps i (import_entry file spec ImportHasNoRank)

-- the package has no such fault
abbrev pub HasNoWholeFault : List LoadedPackage → ℕ → Type 0
HasNoWholeFault ps i = (x : Entry) → IsWholeFault ps i x → ⊥
