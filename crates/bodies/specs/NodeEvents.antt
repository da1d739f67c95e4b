-- The graph of a body of a file that was told of. What its nodes do stands for events of the definitions.
use Rattle.std.specs.Prelude.{[], ◌≡◌, map}
use Rattle.tracked_rows.specs.EventViews.{event_view}
use Rattle.bodies.specs.declared.node.NodeEvent.{NodeEvent}
use Rattle.bodies.specs.declared.node.NodeEvent.TheVariants.{Other, FallsOff, Does}
use Rattle.meaning.specs.Code.{Occurrence, Code}
use Rattle.meaning.specs.Uses.{Event, other, return_event}
use Rattle.flow.specs.declared.graph.Graph.{Graph as KeptGraph}
use Rattle.flow.specs.Walks.{Graph, graph_of}
use Rattle.flow.specs.GraphViews.{graph_view}

abbrev pub node_event_view : NodeEvent → Event
node_event_view Other = other
node_event_view FallsOff = return_event []
node_event_view (Does e) = event_view e.now

-- the same graph with other events
module _ {E F : Type 0} (f : E → F) where
  abbrev pub changed : Occurrence E → Occurrence F
  changed o = record { at = o.at; order = o.order; event = f o.event }

  abbrev pub changed_graph : Graph E → Graph F
  changed_graph g = record { nodes = map changed g.nodes; next = g.next; starts = g.starts }

-- what a graph in memory stands for
abbrev pub events_graph : KeptGraph NodeEvent → Graph Event
events_graph g = changed_graph node_event_view (graph_view g)

-- the graph in memory is that of the code
abbrev pub IsGraphOf : Code Event → KeptGraph NodeEvent → Type 0
IsGraphOf c g = events_graph g ≡ graph_of c
