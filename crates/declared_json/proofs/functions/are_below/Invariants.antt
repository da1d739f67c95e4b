use Rattle.std.proofs.Common.{◌≡◌, drop}
use Rattle.declared_json.specs.DeclaredPackages.{are_below}
use Rattle.declared_json.proofs.functions.are_below.Given as goal

-- whether those that are left are below is whether all are
abbrev pub invariant-loop-position : goal.invariant-loop-position
invariant-loop-position l = are_below l.results (drop l.position-index l.positions) ≡ are_below l.results l.positions
