use Rattle.std.proofs.Common.{◌≡◌, drop, map}
use Rattle.bodies.specs.NodeEvents.{events_graph}
use Rattle.events.specs.VariableViews.{variable_view}
use Rattle.path_faults.specs.FaultViews.{fault_view}
use Rattle.ways.specs.Found.{first_from, is_end_step}
use Rattle.ways.proofs.trails.first_end.Given as goal

-- the first of those that are left is the first of all
abbrev pub invariant-loop-number : goal.invariant-loop-number
invariant-loop-number g l =
    first_from (is_end_step (events_graph l.graph) (map variable_view l.end.variables.now) l.end.groups.now
    (g.L.Lives.lives l.end.live.now) (variable_view l.end.variable) (fault_view l.end.fault)) l.number
    (drop l.number l.steps)
    ≡ first_from (is_end_step (events_graph l.graph) (map variable_view l.end.variables.now) l.end.groups.now
    (g.L.Lives.lives l.end.live.now) (variable_view l.end.variable) (fault_view l.end.fault)) 0 l.steps
