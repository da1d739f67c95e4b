use Rattle.std.proofs.Common.{◌≡◌, ◌++◌, drop, option_map}
use Rattle.meaning.specs.Scopes.{expressions_names, parameters_names, fields_names, statements_names, cases_names, communications_names, specs_names}
use Rattle.scopes.specs.Views.{namings_view}
use Rattle.tree.specs.View.{identifier_syntax, expressions_syntax, parameters_syntax, fields_syntax, statements_syntax, cases_syntax, communications_syntax, specs_syntax}
use Rattle.scopes.proofs.names.+names.Given as goal

-- what was added with what the rest adds is the whole
abbrev pub invariant-expressions-loop-item : goal.invariant-expressions-loop-item
invariant-expressions-loop-item l =
    namings_view l.namings.items ++ expressions_names (expressions_syntax (drop l.item-index l.list))
    ≡ namings_view l.initial.namings.items ++ expressions_names (expressions_syntax l.list)

abbrev pub invariant-parameters-loop-item : goal.invariant-parameters-loop-item
invariant-parameters-loop-item l =
    namings_view l.namings.items ++ parameters_names (parameters_syntax (drop l.item-index l.list))
    ≡ namings_view l.initial.namings.items ++ parameters_names (parameters_syntax l.list)

abbrev pub invariant-fields-loop-item : goal.invariant-fields-loop-item
invariant-fields-loop-item l =
    namings_view l.namings.items ++ fields_names (fields_syntax (drop l.item-index l.list))
    ≡ namings_view l.initial.namings.items ++ fields_names (fields_syntax l.list)

abbrev pub invariant-statements-loop-item : goal.invariant-statements-loop-item
invariant-statements-loop-item l =
    namings_view l.namings.items ++ statements_names l.block (statements_syntax (drop l.item-index l.list))
    ≡ namings_view l.initial.namings.items ++ statements_names l.block (statements_syntax l.list)

abbrev pub invariant-cases-loop-clause : goal.invariant-cases-loop-clause
invariant-cases-loop-clause l =
    namings_view l.namings.items ++ cases_names (option_map (λ n. identifier_syntax n.now) l.guard) (cases_syntax (drop l.clause-index l.clauses))
    ≡ namings_view l.initial.namings.items ++ cases_names (option_map (λ n. identifier_syntax n.now) l.guard) (cases_syntax l.clauses)

abbrev pub invariant-communications-loop-clause : goal.invariant-communications-loop-clause
invariant-communications-loop-clause l =
    namings_view l.namings.items ++ communications_names (communications_syntax (drop l.clause-index l.clauses))
    ≡ namings_view l.initial.namings.items ++ communications_names (communications_syntax l.clauses)

abbrev pub invariant-specs-loop-item : goal.invariant-specs-loop-item
invariant-specs-loop-item l =
    namings_view l.namings.items ++ specs_names l.block l.keyword (specs_syntax (drop l.item-index l.list))
    ≡ namings_view l.initial.namings.items ++ specs_names l.block l.keyword (specs_syntax l.list)
