use Rattle.std.proofs.Common.{◌≡◌, drop, map}
use Rattle.declared_json.specs.DeclaredPackages.{first_reserved, package_of}
use Rattle.declared_json.proofs.reserved.first_reserved.Given as goal

-- the first of those that are left is the first of all
abbrev pub invariant-loop-entry : goal.invariant-loop-entry
invariant-loop-entry l =
    first_reserved (map package_of (drop l.entry-index l.packages)) ≡ first_reserved (map package_of l.packages)
