use Rattle.std.proofs.Common.{◌≡◌, ◌++◌, drop}
use Rattle.reasons.specs.Branches.{communication_offsets}
use Rattle.tree.specs.View.{communications_syntax}
use Rattle.reasons.proofs.branches.communication_offsets.Given as goal

-- what was found with what is left is the whole
abbrev pub invariant-loop-clause : goal.invariant-loop-clause
invariant-loop-clause l =
    l.offsets.items ++ communication_offsets (communications_syntax (drop l.clause-index l.clauses)) ≡ communication_offsets (communications_syntax l.clauses)
