use Rattle.std.proofs.Common.{drop, option_map}
use Rattle.meaning.specs.Mentions.{expressions_marks, arguments_marks, items_marks, lefts_marks, ranged_marks, parameters_marks, fields_marks, statements_marks, cases_marks, communications_marks, specs_marks}
use Rattle.mentions.specs.MarkViews.{spot_view, place_view, optional_call, row_view}
use Rattle.tree.specs.View.{identifier_syntax, expressions_syntax, parameters_syntax, fields_syntax, statements_syntax, cases_syntax, communications_syntax, specs_syntax}
use Rattle.marks.proofs.AddingBy.{Continues}
use Rattle.marks.proofs.walk.+marks.Given as goal

-- what was added with what the rest adds is the whole
abbrev pub invariant-expressions-loop-item : goal.invariant-expressions-loop-item
invariant-expressions-loop-item l =
    Continues l.initial.walk l.walk (expressions_marks (spot_view l.spot) (expressions_syntax (drop l.item-index l.list)))
    (expressions_marks (spot_view l.spot) (expressions_syntax l.list))

abbrev pub invariant-all_arguments-loop-index : goal.invariant-all_arguments-loop-index
invariant-all_arguments-loop-index l =
    Continues l.initial.walk l.walk (arguments_marks (place_view l.place) (optional_call l.call) l.site l.index (expressions_syntax (drop l.index l.list)))
    (arguments_marks (place_view l.place) (optional_call l.call) l.site 0 (expressions_syntax l.list))

abbrev pub invariant-items-loop-index : goal.invariant-items-loop-index
invariant-items-loop-index l =
    Continues l.initial.walk l.walk (items_marks l.site l.index (expressions_syntax (drop l.index l.list)))
    (items_marks l.site 0 (expressions_syntax l.list))

abbrev pub invariant-ranged-loop-item : goal.invariant-ranged-loop-item
invariant-ranged-loop-item l =
    Continues l.initial.walk l.walk (ranged_marks l.site (expressions_syntax (drop l.item-index l.list)))
    (ranged_marks l.site (expressions_syntax l.list))

abbrev pub invariant-lefts-loop-index : goal.invariant-lefts-loop-index
invariant-lefts-loop-index l =
    Continues l.initial.walk l.walk (lefts_marks (row_view l.row) l.site l.index (expressions_syntax (drop l.index l.list)))
    (lefts_marks (row_view l.row) l.site 0 (expressions_syntax l.list))

abbrev pub invariant-parameters-loop-item : goal.invariant-parameters-loop-item
invariant-parameters-loop-item l =
    Continues l.initial.walk l.walk (parameters_marks l.are_parameters l.site (parameters_syntax (drop l.item-index l.list)))
    (parameters_marks l.are_parameters l.site (parameters_syntax l.list))

abbrev pub invariant-fields-loop-item : goal.invariant-fields-loop-item
invariant-fields-loop-item l =
    Continues l.initial.walk l.walk (fields_marks l.site (fields_syntax (drop l.item-index l.list)))
    (fields_marks l.site (fields_syntax l.list))

abbrev pub invariant-statements-loop-index : goal.invariant-statements-loop-index
invariant-statements-loop-index l =
    Continues l.initial.walk l.walk (statements_marks (statements_syntax (drop l.index l.list)))
    (statements_marks (statements_syntax l.list))

abbrev pub invariant-cases-loop-clause : goal.invariant-cases-loop-clause
invariant-cases-loop-clause l =
    Continues l.initial.walk l.walk (cases_marks l.at (option_map (λ n. identifier_syntax n.now) l.guard) (cases_syntax (drop l.clause-index l.clauses)))
    (cases_marks l.at (option_map (λ n. identifier_syntax n.now) l.guard) (cases_syntax l.clauses))

abbrev pub invariant-communications-loop-clause : goal.invariant-communications-loop-clause
invariant-communications-loop-clause l =
    Continues l.initial.walk l.walk (communications_marks (communications_syntax (drop l.clause-index l.clauses)))
    (communications_marks (communications_syntax l.clauses))

abbrev pub invariant-specs-loop-item : goal.invariant-specs-loop-item
invariant-specs-loop-item l =
    Continues l.initial.walk l.walk (specs_marks l.keyword l.at (specs_syntax (drop l.item-index l.list)))
    (specs_marks l.keyword l.at (specs_syntax l.list))
