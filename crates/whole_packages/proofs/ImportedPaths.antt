-- The path of each import of a package's files is one that the package imports.
use Rattle.std.proofs.Common.{Contains, map}
use Rattle.meaning.proofs.Membership.{contains_map}
use Rattle.tree.specs.Syntax.{ImportSpec}
use Rattle.meaning_reports.proofs.ImportsOf.{gives}
use Rattle.meaning_reports.specs.Loaded.{LoadedPackage, NumberedTree, numbered_trees, trees_of, imported_paths, imports_of}

pub spec_path : (p : LoadedPackage) (t : NumberedTree) (s : ImportSpec) → Contains (numbered_trees p) t
    → Contains (imports_of t.tree) s
    → Contains (imported_paths p) s.path
spec_path p t s is_tree is_spec =
    gives (λ tree. map (λ (r : ImportSpec). r.path) (imports_of tree)) (trees_of p) t.tree s.path
    (contains_map (λ (n : NumberedTree). n.tree) (numbered_trees p) t is_tree)
    (contains_map (λ (r : ImportSpec). r.path) (imports_of t.tree) s is_spec)
