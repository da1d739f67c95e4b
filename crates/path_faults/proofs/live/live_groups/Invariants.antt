use Rattle.std.proofs.Common.{◌≡◌, ◌||◌, ℕ, drop, map}
use Rattle.bodies.specs.NodeEvents.{node_event_view, changed}
use Rattle.flow.specs.GraphViews.{occurrences_of}
use Rattle.events.specs.VariableViews.{variable_view}
use Rattle.path_faults.specs.FoundFaults.{any_from, is_live_at, is_live_there}
use Rattle.path_faults.specs.LiveViews.{has_live}
use Rattle.path_faults.proofs.live.live_groups.Given as goal

-- what was added, with what is left, is the whole
abbrev pub invariant-loop-number : goal.invariant-loop-number
invariant-loop-number g l =
    (at order j : ℕ)
    → (has_live l.live at order j
    || any_from
    (λ n o. is_live_at (map variable_view l.variables) (g.A.Arrivals.groups l.arrivals) n o.at o.order at order j)
    l.number (map (changed node_event_view) (occurrences_of (drop l.number l.node-items))))
    ≡ is_live_there (map variable_view l.variables) (g.A.Arrivals.groups l.arrivals)
    (map (changed node_event_view) (occurrences_of l.node-items)) at order j
