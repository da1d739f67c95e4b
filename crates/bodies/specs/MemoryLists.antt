-- The lists of a code by way of a graph in memory that is the code's: its nodes are the code's, number by number, and
-- its walks are the code's lists, with the events for which those in memory stand.
use Rattle.std.specs.Prelude.{ℕ, ◌≡◌, List, ◌∷◌, map, Some, slice_get, Contains}
use Rattle.meaning.specs.Code.{Occurrence, Code}
use Rattle.meaning.specs.Lists.{Lists, stopped}
use Rattle.meaning.specs.Uses.{Event}
use Rattle.code.specs.CodeViews.{occurrence_view}
use Rattle.flow.specs.declared.graph.Graph.{Graph as KeptGraph}
use Rattle.flow.specs.declared.graph.Node.{Node as KeptNode}
use Rattle.flow.specs.GraphOfCode.{nodes}
use Rattle.flow.specs.GraphViews.{graph_view}
use Rattle.flow.specs.Walks.{Walk}
use Rattle.bodies.specs.declared.node.NodeEvent.{NodeEvent}
use Rattle.bodies.specs.NodeEvents.{node_event_view, changed, IsGraphOf}

-- what an occurrence in memory stands for
abbrev pub stands_for : Occurrence NodeEvent → Occurrence Event
stands_for o = changed node_event_view o

abbrev pub node_view : KeptNode NodeEvent → Occurrence Event
node_view node = stands_for (occurrence_view node.occurrence)

-- the node of that number in memory is that occurrence
pub record IsNode (g : KeptGraph NodeEvent) (n : ℕ) (o : Occurrence Event) : Type 0 where
  pub node : KeptNode NodeEvent
  pub is_there : slice_get g.nodes.items n ≡ Some node
  pub stands : node_view node ≡ o

-- a walk in memory goes through occurrences that stand for these
pub record HasWalk (g : KeptGraph NodeEvent) (t : List (Occurrence Event)) : Type 0 where
  pub start : ℕ
  pub passed : List (Occurrence NodeEvent)
  pub is_start : Contains g.starts.items start
  pub walk : Walk (graph_view g) start passed
  pub stand : map stands_for passed ≡ t

-- the nodes in memory are those of the code, and its lists are the walks in memory
pub record TellsLists (c : Code Event) (g : KeptGraph NodeEvent) : Type 0 where
  pub are_nodes : map node_view g.nodes.items ≡ nodes c
  pub each_node : (n : ℕ) (node : KeptNode NodeEvent)
      → slice_get g.nodes.items n ≡ Some node
      → slice_get (nodes c) n ≡ Some (node_view node)
  pub each_occurrence : (n : ℕ) (o : Occurrence Event) → slice_get (nodes c) n ≡ Some o → IsNode g n o
  pub each_list : (o : Occurrence Event) (t : List (Occurrence Event)) → Lists c (o ∷ t) stopped → HasWalk g (o ∷ t)
  pub each_walk : (n : ℕ) (t : List (Occurrence NodeEvent))
      → Contains g.starts.items n
      → Walk (graph_view g) n t
      → Lists c (map stands_for t) stopped

abbrev pub GraphsTellLists : Type 0
GraphsTellLists = (c : Code Event) (g : KeptGraph NodeEvent) → IsGraphOf c g → TellsLists c g
