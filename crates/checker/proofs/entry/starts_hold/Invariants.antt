use Rattle.std.proofs.Common.{◌≡◌, drop, map}
use Rattle.events.specs.VariableViews.{variable_view}
use Rattle.checker.specs.CertificateTests.{starts_hold}
use Rattle.checker.specs.LaidOutViews.{masks_of}
use Rattle.checker.proofs.entry.starts_hold.Given as goal

-- the test of those that are left is that of all
abbrev pub invariant-loop-node : goal.invariant-loop-node
invariant-loop-node l =
    starts_hold l.laid_out.groups.items (map variable_view l.laid_out.variables.now) (masks_of l.laid_out l.states)
    (drop l.node-index l.node-items)
    ≡ starts_hold l.laid_out.groups.items (map variable_view l.laid_out.variables.now) (masks_of l.laid_out l.states)
    l.node-items
