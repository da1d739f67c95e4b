use Rattle.std.proofs.Common.{◌≡◌, max, drop}
use Rattle.tree.proofs.Depths.{at_expressions, at_parameters, at_fields, at_statements, at_cases, at_communications, at_specs}
use Rattle.tree.proofs.depth.+depth.Given as goal

-- the deepest of the items so far and of the rest is the deepest of all
abbrev pub invariant-expressions_depth-loop-expression : goal.invariant-expressions_depth-loop-expression
invariant-expressions_depth-loop-expression l = max l.depth (at_expressions (drop l.expression-index l.expressions)) ≡ at_expressions l.expressions

abbrev pub invariant-parameters_depth-loop-param : goal.invariant-parameters_depth-loop-param
invariant-parameters_depth-loop-param l = max l.depth (at_parameters (drop l.param-index l.params)) ≡ at_parameters l.params

abbrev pub invariant-fields_depth-loop-field : goal.invariant-fields_depth-loop-field
invariant-fields_depth-loop-field l = max l.depth (at_fields (drop l.field-index l.fields)) ≡ at_fields l.fields

abbrev pub invariant-statements_depth-loop-statement : goal.invariant-statements_depth-loop-statement
invariant-statements_depth-loop-statement l = max l.depth (at_statements (drop l.statement-index l.statements)) ≡ at_statements l.statements

abbrev pub invariant-cases_depth-loop-clause : goal.invariant-cases_depth-loop-clause
invariant-cases_depth-loop-clause l = max l.depth (at_cases (drop l.clause-index l.clauses)) ≡ at_cases l.clauses

abbrev pub invariant-communications_depth-loop-clause : goal.invariant-communications_depth-loop-clause
invariant-communications_depth-loop-clause l = max l.depth (at_communications (drop l.clause-index l.clauses)) ≡ at_communications l.clauses

abbrev pub invariant-specs_depth-loop-spec : goal.invariant-specs_depth-loop-spec
invariant-specs_depth-loop-spec l = max l.depth (at_specs (drop l.spec-index l.specs)) ≡ at_specs l.specs
