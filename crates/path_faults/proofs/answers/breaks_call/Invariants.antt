use Rattle.std.proofs.Common.{◌≡◌, ◌&&◌, ℕ, Bool, drop, map}
use Rattle.bodies.specs.NodeEvents.{node_event_view, changed}
use Rattle.flow.specs.GraphViews.{occurrences_of}
use Rattle.meaning.specs.Code.{Occurrence}
use Rattle.meaning.specs.Uses.{Event}
use Rattle.events.specs.VariableViews.{variable_view}
use Rattle.path_faults.specs.FoundFaults.{any_from, is_return, is_uncalled}
use Rattle.path_faults.specs.LiveViews.{has_live}
use Rattle.path_faults.proofs.answers.breaks_call.Given as goal

-- the test of those that are left is that of all
abbrev pub invariant-loop-number : goal.invariant-loop-number
invariant-loop-number g l =
    let test : ℕ → Occurrence Event → Bool = λ n o.
    is_return o.event && is_uncalled (map variable_view l.variables) (g.A.Arrivals.cancels l.arrivals l.variable n)
    (has_live l.live o.at o.order) in
    any_from test l.number (map (changed node_event_view) (occurrences_of (drop l.number l.node-items)))
    ≡ any_from test 0 (map (changed node_event_view) (occurrences_of l.node-items))
