use Rattle.std.proofs.Common.{None, drop, map}
use Rattle.code.specs.CodeViews.{code_view, backward, one_of}
use Rattle.meaning.specs.Code.{skip}
use Rattle.flow.proofs.LinkedNodes.{AddedSoFar, TakenSoFar, WaysAdded}
use Rattle.flow.proofs.link.+link.Given as goal

abbrev pub invariant-link_choice-loop-code : goal.invariant-link_choice-loop-code
invariant-link_choice-loop-code g l =
    TakenSoFar (map code_view l.codes) (map code_view (drop l.code-index l.codes)) l.initial.graph.sizes.left.now
    l.graph.sizes.left.now
    (WaysAdded (map code_view (drop l.code-index l.codes)) (one_of (map code_view l.codes) None) l.next l.initial.graph.exits
    l.graph.exits l.initial.graph.nodes l.graph.nodes l.first)

abbrev pub invariant-link_sequence-loop-code : goal.invariant-link_sequence-loop-code
invariant-link_sequence-loop-code g l =
    TakenSoFar (map code_view l.codes) (map code_view (drop l.code-index l.codes)) l.initial.graph.sizes.left.now
    l.graph.sizes.left.now
    (AddedSoFar (map code_view (drop l.code-index l.codes)) (backward (map code_view l.codes) skip) l.fn.next.items
    l.initial.graph.exits l.graph.exits l.initial.graph.nodes l.graph.nodes l.first)
