use Rattle.std.proofs.Common.{None, drop, map}
use Rattle.code.specs.CodeViews.{code_view, backward, one_of}
use Rattle.meaning.specs.Code.{skip}
use Rattle.flow.proofs.FirstNodes.{FirstSoFar, WaysSoFar}
use Rattle.flow.proofs.firsts.+firsts.Given as goal

abbrev pub invariant-firsts_of_choice-loop-code : goal.invariant-firsts_of_choice-loop-code
invariant-firsts_of_choice-loop-code g l =
    WaysSoFar l.initial.behind l.behind (map code_view (drop l.code-index l.codes)) (one_of (map code_view l.codes) None)
    l.next l.initial.exits l.exits l.nodes

abbrev pub invariant-firsts_of_sequence-loop-code : goal.invariant-firsts_of_sequence-loop-code
invariant-firsts_of_sequence-loop-code g l =
    FirstSoFar l.fn.behind l.behind (map code_view (drop l.code-index l.others)) (backward (map code_view l.codes) skip)
    l.next l.fn.exits l.exits l.nodes
