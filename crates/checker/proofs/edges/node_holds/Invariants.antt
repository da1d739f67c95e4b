use Rattle.std.proofs.Common.{◌≡◌, ℕ, Bool, drop, map}
use Rattle.std.specs.List.{list_all}
use Rattle.bodies.specs.NodeEvents.{node_event_view}
use Rattle.events.specs.VariableViews.{variable_view}
use Rattle.checker.specs.CertificateTests.{all_step_into}
use Rattle.checker.specs.LaidOutViews.{IsLaidOut, masks_of}
use Rattle.checker.proofs.edges.node_holds.Given as goal

-- the test of those that are left is that of all
abbrev pub invariant-loop-after : goal.invariant-loop-after
invariant-loop-after g l =
    let test : ℕ → Bool = λ after.
    all_step_into l.laid_out.groups.items (map variable_view l.laid_out.variables.now) (g.P.Promises.promises l.promises)
    (node_event_view l.node.occurrence.event) (masks_of l.laid_out l.states l.number) (masks_of l.laid_out l.states after) in
    IsLaidOut l.laid_out → list_all test (drop l.after-index l.after-items) ≡ list_all test l.after-items
