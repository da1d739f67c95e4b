use Rattle.code.specs.CodeViews.{code_view}
use Rattle.flow.specs.TurnSizes.{turn_sizes}
use Rattle.flow.proofs.LinkedNodes.{all_taken, whole_graph, graph_walks}
use Rattle.flow.proofs.graph.build.Goals as goal

pub returns-clause-graph : goal.returns-clause-graph
returns-clause-graph g c =
    whole_graph (code_view c.args.code.now) _ _ _ c.link.new.graph.nodes c.in_ok-starts.starts c.new-2.ensures.items
    c.new.ensures.items
    (all_taken (turn_sizes (code_view c.args.code.now)) c.new-counted.result.items c.count.new.sizes.items _ _
    c.new-counted.ensures.items c.in_ok-count.ensures.are_turns c.deref.ensures.value
    (rw c.new-3.ensures.items at c.in_ok-starts.ensures))

pub returns-clause-walks : goal.returns-clause-walks
returns-clause-walks g c = graph_walks (code_view c.args.code.now) _ (returns-clause-graph g c)
