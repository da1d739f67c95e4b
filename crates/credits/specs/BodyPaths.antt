-- The paths of a body by way of its graph in memory, and of the classes that arrive at the graph's nodes.
use Rattle.std.specs.Prelude.{ℕ, ◌≡◌, Bool, List}
use Rattle.bodies.specs.declared.node.NodeEvent.{NodeEvent}
use Rattle.bodies.specs.Classified.{Classifies}
use Rattle.bodies.specs.NodeEvents.{IsGraphOf}
use Rattle.flow.specs.declared.graph.Graph.{Graph as KeptGraph}
use Rattle.meaning.specs.BodyEvents.{Variable}
use Rattle.meaning.specs.Classes.{CancelClass, GroupClass}
use Rattle.meaning_packages.specs.PathFaults.{Paths}

-- the graph, the variables, and which classes of them arrive where, are those of the paths
pub record TellsPaths
    (b : Paths) (graph : KeptGraph NodeEvent) (vs : List Variable)
    (cancels : ℕ → ℕ → CancelClass → Bool) (groups : ℕ → ℕ → GroupClass → Bool)
    : Type 0 where
  pub is_graph : IsGraphOf b.code graph
  pub are_variables : b.variables ≡ vs
  pub classifies : Classifies b.code b.promises b.variables cancels groups
