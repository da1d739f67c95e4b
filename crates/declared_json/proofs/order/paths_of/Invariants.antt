use Rattle.std.proofs.Common.{◌≡◌, ◌++◌, drop, map}
use Rattle.declared_json.specs.DeclaredPackages.{package_of, path_of}
use Rattle.declared_json.proofs.order.paths_of.Given as goal

-- the paths so far, with those of what is left, are all
abbrev pub invariant-loop-entry : goal.invariant-loop-entry
invariant-loop-entry l =
    map (λ path. path.now) l.paths.items ++ map path_of (map package_of (drop l.entry-index l.packages))
    ≡ map path_of (map package_of l.packages)
