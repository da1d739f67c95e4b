-- What the small functions keep is computed.
use Rattle.std.proofs.Common.{refl}
use Rattle.meaning.specs.Scopes.{expression_names, expression_form_names, expressions_names, optional_names, signature_names, parameters_names, fields_names, statement_names, statement_form_names, statements_names, optional_statement_names, cases_names, communications_names, declaration_names, specs_names}
use Rattle.meaning.specs.Declarations.{first_locals, innermost}
use Rattle.meaning.specs.Mentions.{expression_marks, form_marks, expressions_marks, optional_marks, arguments_marks, items_marks, lefts_marks, ranged_marks, names_type_marks, signature_marks, parameters_marks, fields_marks, statement_marks, statement_form_marks, statements_marks, optional_statement_marks, cases_marks, communications_marks, declaration_marks, specs_marks}
use Rattle.meaning.specs.Tracked.{placed, locals_of}
use Rattle.meaning.specs.Kept.{gifts, form_gifts, elements_gifts}
use Rattle.meaning.specs.ObjectExamples.{KeptForCertain}

pub kept_for_certain : KeptForCertain
unfolding expression_marks form_marks expressions_marks optional_marks arguments_marks items_marks lefts_marks
    ranged_marks names_type_marks signature_marks parameters_marks fields_marks statement_marks statement_form_marks
    statements_marks optional_statement_marks cases_marks communications_marks declaration_marks specs_marks
    expression_names expression_form_names expressions_names optional_names signature_names parameters_names
    fields_names statement_names statement_form_names statements_names optional_statement_names cases_names
    communications_names declaration_names specs_names first_locals innermost placed locals_of gifts form_gifts
    elements_gifts
kept_for_certain = record {
  undeclared_key = refl;
  key_of_function = refl;
  key_of_variable = refl;
  key_of_parameter = refl;
  key_of_universe = refl;
  key_of_import = refl;
  key_of_package = refl;
  key_of_dot_import = refl;
  key_beside_dot_import = refl;
  passed_at_once = refl;
  of_value = refl;
  of_variable = refl;
  of_pointer = refl;
  obtaining = refl;
  of_outer = refl;
  given_within = refl;
  address_returned = refl;
  by_star = refl;
  by_key = refl;
  going_within = refl;
  deferred_within = refl;
}
