-- The codes are computed.
use Rattle.std.proofs.Common.{refl}
use Rattle.meaning.specs.StatementCode.{statement_code, form_code, optional_code, statements_code, cases_code, communications_code}
use Rattle.meaning.specs.Jumps.{statement_parts, form_parts, parts_of, optional_parts, cases_parts, communications_parts}
use Rattle.examples_of_rules.specs.CodeExamples.{StatementsAreCodes}

pub statements_are_codes : StatementsAreCodes
unfolding statement_code form_code optional_code statements_code cases_code communications_code statement_parts
    form_parts parts_of optional_parts cases_parts communications_parts
statements_are_codes = record {
  with_else = refl;
  without_else = refl;
  with_a_label = refl;
  without_a_condition = refl;
  over_a_range = refl;
  without_default = refl;
  with_default = refl;
  with_a_clause = refl;
  without_clauses = refl;
  of_a_return = refl;
  of_a_panic = refl;
  of_a_body = refl;
}
