use Rattle.std.proofs.Common.{◌≡◌, drop, map}
use Rattle.declared_json.specs.DeclaredPackages.{package_of, packages_of, table_at}
use Rattle.declared_json.proofs.outside.DeclaredPackages.table_of.Given as goal

-- what is found among those that are left is found among all
abbrev pub invariant-loop-entry : goal.invariant-loop-entry
invariant-loop-entry l =
    table_at l.path (map package_of (drop l.entry-index l.self.packages.items)) ≡ table_at l.path (packages_of l.self)
