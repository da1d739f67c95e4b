-- Nodes of a graph in memory, as the graph of events has them.
use Rattle.std.proofs.Common.{◌≡◌, ◌≤◌, ◌<◌, ℕ, List, length, get_or, Some, None, ap, ◌∙◌, subst}
use Rattle.std.proofs.lemmas.Option.{slice_get-map, slice_get_past, slice_get_read}
use Rattle.std.specs.Prelude.{slice_get, option_map}
use Rattle.bodies.specs.MemoryLists.{node_view}
use Rattle.bodies.specs.NodeEvents.{node_event_view, changed, events_graph}
use Rattle.bodies.specs.declared.node.NodeEvent.{NodeEvent}
use Rattle.code.specs.CodeViews.{occurrence_view}
use Rattle.flow.specs.GraphViews.{graph_view}
use Rattle.flow.specs.declared.graph.Graph.{Graph as KeptGraph}
use Rattle.flow.specs.declared.graph.Node.{Node as KeptNode}
use Rattle.ways.proofs.AskedWays.{node_shown}

module _ (g : KeptGraph NodeEvent) (n : ℕ) (nodes : List (KeptNode NodeEvent)) (same : nodes ≡ g.nodes.items) where
  -- the node that was read there
  pub node_read : (node : KeptNode NodeEvent)
      → n < length nodes
      → node ≡ get_or nodes n node
      → slice_get (events_graph g).nodes n ≡ Some (node_view node)
  node_read node low is =
      node_shown g n node
      (slice_get_read g.nodes.items (length nodes) n node (ap length same) low
      (is ∙ ap (λ (ns : List (KeptNode NodeEvent)). get_or ns n node) same))

  pub next_read : (node : KeptNode NodeEvent)
      → n < length nodes
      → node ≡ get_or nodes n node
      → slice_get (events_graph g).next n ≡ Some node.next.items
  next_read node low is =
      slice_get-map (λ (m : KeptNode NodeEvent). m.next.items) g.nodes.items n
      ∙ ap (option_map (λ (m : KeptNode NodeEvent). m.next.items))
      (slice_get_read g.nodes.items (length nodes) n node (ap length same) low
      (is ∙ ap (λ (ns : List (KeptNode NodeEvent)). get_or ns n node) same))

  past : length nodes ≤ n → slice_get g.nodes.items n ≡ None
  past most = slice_get_past g.nodes.items n (subst (λ (ns : List (KeptNode NodeEvent)). length ns ≤ n) same most)

  pub node_past : length nodes ≤ n → slice_get (events_graph g).nodes n ≡ None
  node_past most =
      slice_get-map (changed node_event_view) (graph_view g).nodes n
      ∙ ap (option_map (changed node_event_view))
      (slice_get-map (λ (m : KeptNode NodeEvent). occurrence_view m.occurrence) g.nodes.items n
      ∙ ap (option_map (λ (m : KeptNode NodeEvent). occurrence_view m.occurrence)) (past most))

  pub next_past : length nodes ≤ n → slice_get (events_graph g).next n ≡ None
  next_past most =
      slice_get-map (λ (m : KeptNode NodeEvent). m.next.items) g.nodes.items n
      ∙ ap (option_map (λ (m : KeptNode NodeEvent). m.next.items)) (past most)
