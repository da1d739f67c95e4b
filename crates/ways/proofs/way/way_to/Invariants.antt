use Rattle.std.proofs.Common.{Contains, map, option_map, take}
use Rattle.bodies.specs.NodeEvents.{events_graph}
use Rattle.events.specs.VariableViews.{variable_view}
use Rattle.meaning_packages.specs.PathFaults.{Paths}
use Rattle.path_faults.specs.FaultViews.{fault_view}
use Rattle.ways.proofs.BestWays.{TellsBest}
use Rattle.ways.specs.Asked.{way_view, IsAsked}
use Rattle.ways.proofs.way.way_to.Given as goal

-- what was found is the best way of the variables so far
abbrev pub invariant-loop-variable : goal.invariant-loop-variable
invariant-loop-variable g l =
    (b : Paths) → IsAsked (λ p. g.P.Promises.promises p) (λ m. g.L.Lives.lives m) l.asked b
    → TellsBest b (fault_view l.fault) (events_graph l.asked.graph.now)
    (Contains (map variable_view (take l.variable-index l.asked.variables.now))) (option_map way_view l.best)
