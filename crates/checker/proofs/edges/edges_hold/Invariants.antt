use Rattle.std.proofs.Common.{◌≡◌, ℕ, Bool, drop, map}
use Rattle.bodies.specs.NodeEvents.{node_event_view, changed}
use Rattle.events.specs.VariableViews.{variable_view}
use Rattle.flow.specs.GraphViews.{occurrences_of, links_of}
use Rattle.meaning.specs.Uses.{Event}
use Rattle.checker.specs.CertificateTests.{all_step_into, edges_from}
use Rattle.checker.specs.LaidOutViews.{IsLaidOut, masks_of}
use Rattle.checker.proofs.edges.edges_hold.Given as goal

-- the test of those that are left is that of all
abbrev pub invariant-loop-number : goal.invariant-loop-number
invariant-loop-number g l =
    let test : ℕ → Event → ℕ → Bool = λ n e m.
    all_step_into l.laid_out.groups.items (map variable_view l.laid_out.variables.now) (g.P.Promises.promises l.promises) e
    (masks_of l.laid_out l.states n) (masks_of l.laid_out l.states m) in
    IsLaidOut l.laid_out
    → edges_from test l.number (map (changed node_event_view) (occurrences_of (drop l.number l.node-items)))
    (links_of (drop l.number l.node-items))
    ≡ edges_from test 0 (map (changed node_event_view) (occurrences_of l.node-items)) (links_of l.node-items)
