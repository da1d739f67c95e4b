-- What the small functions keep is computed.
use Rattle.std.proofs.Common.{refl}
use Rattle.meaning.specs.Scopes.{expression_names, expression_form_names, expressions_names, optional_names, signature_names, parameters_names, fields_names, statement_names, statement_form_names, statements_names, optional_statement_names, cases_names, communications_names, declaration_names, specs_names}
use Rattle.meaning.specs.Declarations.{first_locals, innermost}
use Rattle.meaning.specs.Mentions.{expression_marks, form_marks, expressions_marks, optional_marks, arguments_marks, items_marks, lefts_marks, ranged_marks, names_type_marks, signature_marks, parameters_marks, fields_marks, statement_marks, statement_form_marks, statements_marks, optional_statement_marks, cases_marks, communications_marks, declaration_marks, specs_marks}
use Rattle.meaning.specs.Tracked.{placed, locals_of}
use Rattle.meaning.specs.Kept.{gifts, form_gifts, elements_gifts}
use Rattle.meaning.specs.KeptExamples.{KeptInFields}

pub kept_in_fields : KeptInFields
unfolding expression_marks form_marks expressions_marks optional_marks arguments_marks items_marks lefts_marks
    ranged_marks names_type_marks signature_marks parameters_marks fields_marks statement_marks statement_form_marks
    statements_marks optional_statement_marks cases_marks communications_marks declaration_marks specs_marks
    expression_names expression_form_names expressions_names optional_names signature_names parameters_names
    fields_names statement_names statement_form_names statements_names optional_statement_names cases_names
    communications_names declaration_names specs_names first_locals innermost placed locals_of gifts form_gifts
    elements_gifts
kept_in_fields = record {
  keeps = refl;
  is_kept = refl;
  by_return = refl;
  at_once = refl;
  passed_at_once = refl;
  passed = refl;
  printed = refl;
  in_literal = refl;
  by_field = refl;
  by_method = refl;
  by_goroutine = refl;
  to_field = refl;
  to_name = refl;
  bound_again = refl;
  overwritten = refl;
  obtains_into = refl;
  tells = refl;
  to_outer = refl;
  outer_obtains = refl;
  to_new = refl;
  spoiled = refl;
  by_pair = refl;
  by_append = refl;
  sent = refl;
  elided = refl;
  of_slices = refl;
  by_method_name = refl;
  of_range = refl;
  of_clause = refl;
  by_value = refl;
  other_field = refl;
  never_called = refl;
  second_variable = refl;
  second_is_read = refl;
  key_declared = refl;
  keyed = refl;
  printed_in_brackets = refl;
  overwritten_in_brackets = refl;
  pointed_to = refl;
  address_given = refl;
  by_filled = refl;
}
