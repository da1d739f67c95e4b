use Rattle.std.proofs.Common.{◌≡◌, ℕ, Bool, drop, map}
use Rattle.bodies.specs.NodeEvents.{node_event_view, changed}
use Rattle.events.specs.VariableViews.{variable_view}
use Rattle.flow.specs.GraphViews.{occurrences_of}
use Rattle.meaning.specs.Code.{Occurrence}
use Rattle.meaning.specs.Uses.{Event}
use Rattle.path_faults.specs.FoundFaults.{any_from}
use Rattle.checker.specs.CertificateTests.{cancels_told, groups_told, lives_told, node_breaks}
use Rattle.checker.specs.LaidOutViews.{masks_of}
use Rattle.checker.proofs.faults.has_fault.Given as goal

-- the test of those that are left is that of all
abbrev pub invariant-loop-number : goal.invariant-loop-number
invariant-loop-number g l =
    let masks = masks_of l.laid_out l.states in
    let test : ℕ → Occurrence Event → Bool = λ n o.
    node_breaks (map variable_view l.laid_out.variables.now) (cancels_told l.laid_out.groups.items masks)
    (groups_told masks) l.laid_out.groups.items (lives_told masks n) (g.C.Claims.claims l.claims) n o.event in
    any_from test l.number (map (changed node_event_view) (occurrences_of (drop l.number l.node-items)))
    ≡ any_from test 0 (map (changed node_event_view) (occurrences_of l.node-items))
