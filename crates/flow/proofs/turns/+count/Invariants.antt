use Rattle.std.proofs.Common.{drop, map}
use Rattle.code.specs.CodeViews.{code_view}
use Rattle.flow.proofs.TurnCounts.{CountedSoFar}
use Rattle.flow.proofs.turns.+count.Given as goal

-- what was counted, with what is left, is the whole
abbrev pub invariant-count_all-loop-code : goal.invariant-count_all-loop-code
invariant-count_all-loop-code g l =
    CountedSoFar (map code_view (drop l.code-index l.codes)) (map code_view l.codes) l.initial.sizes.items l.sizes.items
    l.sum
