use Rattle.std.proofs.Common.{◌≡◌, ◌++◌, drop}
use Rattle.reasons.specs.Branches.{case_offsets}
use Rattle.tree.specs.View.{cases_syntax}
use Rattle.reasons.proofs.branches.case_offsets.Given as goal

-- what was found with what is left is the whole
abbrev pub invariant-loop-clause : goal.invariant-loop-clause
invariant-loop-clause l =
    l.offsets.items ++ case_offsets (cases_syntax (drop l.clause-index l.clauses)) ≡ case_offsets (cases_syntax l.clauses)
