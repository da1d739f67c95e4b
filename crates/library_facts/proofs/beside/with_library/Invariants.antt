use Rattle.std.proofs.Common.{◌≡◌, ◌++◌, map}
use Rattle.std.specs.Vec.Iter.{into_iter_items}
use Rattle.declared_json.specs.DeclaredPackages.{package_of}
use Rattle.library_facts.proofs.beside.with_library.Given as goal

-- what was added with the rest is all
abbrev pub invariant-loop-entry : goal.invariant-loop-entry
invariant-loop-entry l =
    map package_of l.packages.items ++ map package_of (into_iter_items l.entry-iterator)
    ≡ map package_of l.initial.packages.items ++ map package_of (into_iter_items l.initial.entry-iterator)
