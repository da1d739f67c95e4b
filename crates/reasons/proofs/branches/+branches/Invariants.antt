use Rattle.std.proofs.Common.{◌≡◌, ◌++◌, drop, map}
use Rattle.reasons.specs.Branches.{branches_of, case_branches, communication_branches}
use Rattle.reasons.specs.WordViews.{branch_view}
use Rattle.tree.specs.View.{statements_syntax, cases_syntax, communications_syntax}
use Rattle.reasons.proofs.branches.+branches.Given as goal

-- what was added with what the rest adds is the whole
abbrev pub invariant-add_statements-loop-item : goal.invariant-add_statements-loop-item
invariant-add_statements-loop-item l =
    map branch_view l.branches.items ++ branches_of (statements_syntax (drop l.item-index l.list))
    ≡ map branch_view l.initial.branches.items ++ branches_of (statements_syntax l.list)

abbrev pub invariant-add_cases-loop-clause : goal.invariant-add_cases-loop-clause
invariant-add_cases-loop-clause l =
    map branch_view l.branches.items ++ case_branches (cases_syntax (drop l.clause-index l.clauses))
    ≡ map branch_view l.initial.branches.items ++ case_branches (cases_syntax l.clauses)

abbrev pub invariant-add_communications-loop-clause : goal.invariant-add_communications-loop-clause
invariant-add_communications-loop-clause l =
    map branch_view l.branches.items ++ communication_branches (communications_syntax (drop l.clause-index l.clauses))
    ≡ map branch_view l.initial.branches.items ++ communication_branches (communications_syntax l.clauses)
