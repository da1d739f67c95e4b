use Rattle.std.proofs.Common.{◌≡◌, ◌++◌, map}
use Rattle.std.specs.List.{filter}
use Rattle.std.specs.Vec.Iter.{into_iter_items}
use Rattle.declared_json.specs.DeclaredPackages.{package_of}
use Rattle.library_facts.specs.Beside.{is_beside}
use Rattle.library_facts.proofs.beside.but_given.Given as goal

-- what was kept with what is kept of the rest is the whole
abbrev pub invariant-loop-entry : goal.invariant-loop-entry
invariant-loop-entry l =
    map package_of l.packages.items
    ++ filter (is_beside (map (λ path. path.now) l.paths)) (map package_of (into_iter_items l.entry-iterator))
    ≡ filter (is_beside (map (λ path. path.now) l.paths)) (map package_of (into_iter_items l.initial.entry-iterator))
