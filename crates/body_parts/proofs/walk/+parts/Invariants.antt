use Rattle.std.proofs.Common.{◌≡◌, ◌++◌, drop, map}
use Rattle.meaning.specs.Jumps.{parts_of, cases_parts, communications_parts}
use Rattle.body_parts.specs.PartViews.{part_view, wanted_of}
use Rattle.tree.specs.View.{statements_syntax, cases_syntax, communications_syntax}
use Rattle.body_parts.proofs.walk.+parts.Given as goal

-- what was added with what the rest adds is the whole
abbrev pub invariant-add_statements-loop-item : goal.invariant-add_statements-loop-item
invariant-add_statements-loop-item l =
    map part_view l.parts.items ++ wanted_of l.wanted (parts_of (statements_syntax (drop l.item-index l.list)))
    ≡ map part_view l.initial.parts.items ++ wanted_of l.wanted (parts_of (statements_syntax l.list))

abbrev pub invariant-add_cases-loop-clause : goal.invariant-add_cases-loop-clause
invariant-add_cases-loop-clause l =
    map part_view l.parts.items ++ wanted_of l.wanted (cases_parts (cases_syntax (drop l.clause-index l.clauses)))
    ≡ map part_view l.initial.parts.items ++ wanted_of l.wanted (cases_parts (cases_syntax l.clauses))

abbrev pub invariant-add_communications-loop-clause : goal.invariant-add_communications-loop-clause
invariant-add_communications-loop-clause l =
    map part_view l.parts.items
    ++ wanted_of l.wanted (communications_parts (communications_syntax (drop l.clause-index l.clauses)))
    ≡ map part_view l.initial.parts.items
    ++ wanted_of l.wanted (communications_parts (communications_syntax l.clauses))
