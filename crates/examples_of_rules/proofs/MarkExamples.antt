-- What places ask of names is computed.
use Rattle.std.proofs.Common.{refl}
use Rattle.meaning.specs.Mentions.{expression_marks, form_marks, expressions_marks, optional_marks, arguments_marks, items_marks, lefts_marks, ranged_marks, names_type_marks, signature_marks, parameters_marks, fields_marks, statement_marks, statement_form_marks, statements_marks, optional_statement_marks, cases_marks, communications_marks, declaration_marks, specs_marks}
use Rattle.examples_of_rules.specs.MarkExamples.{PlacesAskOfNames}

pub places_ask_of_names : PlacesAskOfNames
unfolding expression_marks form_marks expressions_marks optional_marks arguments_marks items_marks lefts_marks
    ranged_marks names_type_marks signature_marks parameters_marks fields_marks statement_marks statement_form_marks
    statements_marks optional_statement_marks cases_marks communications_marks declaration_marks specs_marks
places_ask_of_names = record {
  of_a_call = refl;
  of_a_row = refl;
  of_an_only_value = refl;
  of_an_address = refl;
  of_a_return = refl;
  of_a_callee_in_brackets = refl;
  of_an_increment = refl;
  of_a_deferred_call = refl;
  of_a_goroutine = refl;
}
