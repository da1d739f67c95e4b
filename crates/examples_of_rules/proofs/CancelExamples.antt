-- What the functions do to their variables is computed.
use Rattle.std.proofs.Common.{refl}
use Rattle.meaning.specs.Scopes.{expression_names, expression_form_names, expressions_names, optional_names, signature_names, parameters_names, fields_names, statement_names, statement_form_names, statements_names, optional_statement_names, cases_names, communications_names, declaration_names, specs_names}
use Rattle.meaning.specs.Declarations.{first_locals, innermost}
use Rattle.meaning.specs.Mentions.{expression_marks, form_marks, expressions_marks, optional_marks, arguments_marks, items_marks, lefts_marks, ranged_marks, names_type_marks, signature_marks, parameters_marks, fields_marks, statement_marks, statement_form_marks, statements_marks, optional_statement_marks, cases_marks, communications_marks, declaration_marks, specs_marks}
use Rattle.meaning.specs.Tracked.{placed, locals_of}
use Rattle.meaning.specs.Uses.{may_be_a_local}
use Rattle.meaning.specs.Kept.{gifts, form_gifts, elements_gifts}
use Rattle.meaning.specs.Jumps.{statement_parts, form_parts, parts_of, optional_parts, cases_parts, communications_parts}
use Rattle.tree.specs.declared.edition.Edition.TheVariants.{First, Second}
use Rattle.examples_of_rules.specs.CancelExamples.{CancelFunctionsAreFollowed, InBoth}

in_first : InBoth First
unfolding expression_names expression_form_names expressions_names optional_names signature_names parameters_names
    fields_names statement_names statement_form_names statements_names optional_statement_names cases_names
    communications_names declaration_names specs_names first_locals innermost expression_marks form_marks
    expressions_marks optional_marks arguments_marks items_marks lefts_marks ranged_marks names_type_marks
    signature_marks parameters_marks fields_marks statement_marks statement_form_marks statements_marks
    optional_statement_marks cases_marks communications_marks declaration_marks specs_marks placed locals_of
    may_be_a_local gifts form_gifts elements_gifts statement_parts form_parts parts_of optional_parts cases_parts
    communications_parts
in_first = record {
  obtained = refl;
  called = refl;
  deferred = refl;
  passed = refl;
  given_elsewhere = refl;
  by_a_literal = refl;
  within_the_literal = refl;
  bound_to_nil = refl;
  handed_on = refl;
  variables = refl;
  captured_by_the_literal = refl;
}

in_second : InBoth Second
unfolding expression_names expression_form_names expressions_names optional_names signature_names parameters_names
    fields_names statement_names statement_form_names statements_names optional_statement_names cases_names
    communications_names declaration_names specs_names first_locals innermost expression_marks form_marks
    expressions_marks optional_marks arguments_marks items_marks lefts_marks ranged_marks names_type_marks
    signature_marks parameters_marks fields_marks statement_marks statement_form_marks statements_marks
    optional_statement_marks cases_marks communications_marks declaration_marks specs_marks placed locals_of
    may_be_a_local gifts form_gifts elements_gifts statement_parts form_parts parts_of optional_parts cases_parts
    communications_parts
in_second = record {
  obtained = refl;
  called = refl;
  deferred = refl;
  passed = refl;
  given_elsewhere = refl;
  by_a_literal = refl;
  within_the_literal = refl;
  bound_to_nil = refl;
  handed_on = refl;
  variables = refl;
  captured_by_the_literal = refl;
}

pub cancel_functions_are_followed : CancelFunctionsAreFollowed
unfolding expression_names expression_form_names expressions_names optional_names signature_names parameters_names
    fields_names statement_names statement_form_names statements_names optional_statement_names cases_names
    communications_names declaration_names specs_names first_locals innermost expression_marks form_marks
    expressions_marks optional_marks arguments_marks items_marks lefts_marks ranged_marks names_type_marks
    signature_marks parameters_marks fields_marks statement_marks statement_form_marks statements_marks
    optional_statement_marks cases_marks communications_marks declaration_marks specs_marks placed locals_of
    may_be_a_local gifts form_gifts elements_gifts statement_parts form_parts parts_of optional_parts cases_parts
    communications_parts
cancel_functions_are_followed = record {
  in_the_first = in_first;
  in_the_second = in_second;
  under_go_in_the_first = refl;
  under_go_in_the_second = refl;
  faults_in_the_first = refl;
  faults_in_the_second = refl;
  bound_in_the_first = refl;
  bound_in_the_second = refl;
  discarded_in_the_first = refl;
  discarded_in_the_second = refl;
}
