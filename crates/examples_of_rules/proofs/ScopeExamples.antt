-- What the names mean is computed.
use Rattle.std.proofs.Common.{refl}
use Rattle.meaning.specs.Scopes.{expression_names, expression_form_names, expressions_names, optional_names, signature_names, parameters_names, fields_names, statement_names, statement_form_names, statements_names, optional_statement_names, cases_names, communications_names, declaration_names, specs_names}
use Rattle.meaning.specs.Declarations.{first_locals, innermost}
use Rattle.examples_of_rules.specs.ScopeExamples.{NamesMeanTheirDeclarations}

pub names_mean_their_declarations : NamesMeanTheirDeclarations
unfolding expression_names expression_form_names expressions_names optional_names signature_names parameters_names
    fields_names statement_names statement_form_names statements_names optional_statement_names cases_names
    communications_names declaration_names specs_names first_locals innermost
names_mean_their_declarations = record {
  import_of_the_file = refl;
  type_of_the_universe = refl;
  declared_nowhere = refl;
  declares = refl;
  assigns = refl;
  parameter = refl;
  in_the_condition = refl;
  in_the_block = refl;
  behind_else = refl;
  after_the_if = refl;
  in_a_literal = refl;
  function_of_the_package = refl;
  hides_the_import = refl;
  one_function_each = refl;
  two_functions = refl;
}
