use Rattle.std.proofs.Common.{◌≡◌, drop}
use Rattle.explanations.specs.Pointers.{first_of_ring}
use Rattle.explanations.proofs.pointers.on_the_ring.Given as goal

-- the first of those that are left is the first of all
abbrev pub invariant-loop-diagnostic : goal.invariant-loop-diagnostic
invariant-loop-diagnostic l =
    first_of_ring (drop l.diagnostic-index l.report.diagnostics.items) ≡ first_of_ring l.report.diagnostics.items
