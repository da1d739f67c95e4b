-- The reader computes the tree of each example. That it is sound and complete says the rest: that the tokens spell that
-- tree, and, by reading as deep as it and another one, that they spell no other.
use Rattle.std.proofs.Common.{◌≡◌, ℕ, ◌≤◌, max, false, List, [], Some, None, true≢false, refl, sym, ◌∙◌, arith}
use Rattle.std.proofs.lemmas.Option.{none-some}
use Rattle.lexer.specs.Spelling.{same_kind}
use Rattle.tree.specs.Syntax.{Expression, Statement, SourceFile}
use Rattle.tree.specs.Depth.{expression_depth, statement_depth}
use Rattle.tree.specs.declared.edition.Edition.{Edition}
use Rattle.tree.specs.declared.edition.Edition.TheVariants.{First, Second}
use Rattle.meaning.specs.Cursor.{GoText, read_in, Cursor}
use Rattle.meaning.specs.Grammar.{as_expression, SpellsExpression}
use Rattle.meaning.specs.TreeExamples.{Example, in_edition, begin}
use Rattle.tree_reader.specs.Reading.{stands, take, past, take_semicolon, skip_from, read_identifier, read_optional_identifier, read_more_identifiers, read_identifiers}
use Rattle.tree_reader.specs.Reader.{read_more_expressions, read_expressions, read_expression_unless, read_element, read_elements, read_braced_elements, read_arguments, read_item, read_items, read_parameters, read_signature, read_type_name, read_struct_field, read_interface_field, read_fields, read_braced_fields, read_statements, read_block, read_bracket_type, read_map_type, read_channel_type, read_literal_type, read_value_spec, read_type_spec, read_specs, read_declaration, read_function, read_typed, read_operand, read_slice, read_index, read_call, read_assertion, read_selector, read_composite, read_suffixes, read_primary, read_unary, read_operators, read_expression_of, read_value_of, read_named_type, read_type_of, read_simple_after, read_simple, read_header, read_condition, read_else, read_if, read_loop, read_clauses, read_range, read_for_after, read_for, read_cases, read_communication, read_communications, read_guard, read_switch_guard, read_switch, read_select, read_labeled, read_started, read_return, read_branch, read_block_statement, read_other_statement, read_statement_of, readers, read_import_spec, read_import_specs, read_import, read_imports, read_receiver_within, read_body_within, read_function_declaration_within, read_top_level_within, read_top_levels_within, read_file_within, read_file, read_more_arguments, read_instance, read_indexed, read_term, read_terms, read_constraint, read_type_parameter, read_type_items, read_type_parameters, read_plain_type, read_generic_type, read_length_or_parameter, read_type_arguments, read_goto, read_import_name, read_function_parameters}
use Rattle.meaning.specs.WellFormed.{is_type, is_received, is_constraint}
use Rattle.meaning.specs.TypeParameters.{begins_parameters, has_separator, type_follows, has_type, splits, split_has_type, joins}
use Rattle.meaning.proofs.Spelled.{◌and◌}
use Rattle.tree_reader.specs.Claims.{CannotGoOn}
use Rattle.tree_reader.specs.ReadExamples.{Case, start_of, end_of, end_of_statement, depth, Each, IsReadExpression, IsReadType, IsReadStatement, IsReadFile, IsNoExpression, IsNoType, IsNoFile, ComputedTrees, expressions, types, statements, files, not_expressions, not_types, not_files, difference_of_difference, conjunction_in_disjunction, product_in_sum, negated_selector, star_of_selector, address_of_literal, received, literals, call_with_ellipsis, call_without_arguments, index_of_call, slice_without_bounds, slice_from, slice_to, slice_with_capacity, assertion, conversion, conversion_to_pointer, conversion_to_function, result_and_no_conversion, star_of_conversion, received_of_conversion, literal_called_at_once, literal_of_functions, literal_of_package, elements_in_braces, array_literal, sums, products, comparisons, signs, negation_of_brackets, sends_channels, receives_in_brackets, receives_receivers, map_of_arrays, names_with_one_type, two_types, named_and_pointer, pointer_among_names, variadic, one_result, fields_with_tags, methods, sent, incremented, decremented, assigned, defined, assigned_sums, assigned_products, started, deferred, returned, returned_nothing, break_with_label, continued, condition_with_brackets, condition_with_slice, otherwise_if, condition_after_definition, loop_without_header, loop_while, loop_of_semicolons, loop_that_counts, range_alone, range_defined, range_assigned, type_switch, type_switch_with_name, type_switch_after_definition, switch_without_tag, two_defaults, select_of_nothing, select_of_all, label_before_brace, label_of_label, empty_statements, block_in_block, constants_in_group, constant_with_type, variable_without_value, types_in_group, no_declaration, method_with_receiver, function_without_body, whole_file, groups, no_right_operand, no_comma, no_index, no_capacity, braces_alone, two_indexes, guard_outside, bare_literal_in_header, go_without_call, constant_without_value, definition_as_condition, increment_as_communication, jump, fall_through, no_semicolon, last_name_without_type, two_embedded, embedded_pointer_in_interface, union, import_of_all_names, import_after_declaration, type_parameters, two_arguments, one_argument_and_comma, called_instance, literal_of_instance, slice_of_instances_as_operand, comparisons_in_call, map_of_instances, array_and_instance, array_and_embedded, union_and_name, parameters_with_one_constraint, alias_with_parameter, product_as_length, call_as_length, pointer_and_comma, pointer_or_tilde, pointer_to_slice, function_type_in_parentheses, pointer_to_channel_or_name, array_as_constraint, index_as_length, jump_to_label, fall, function_with_parameters, dot_import, index_of_slice_type, product_of_slice_type, sum_in_brackets_of_literal, tilde_in_expression, literal_of_instance_in_header, sum_as_argument, two_arguments_and_type, number_as_argument, parameters_of_element, method_with_parameters, no_type_parameter, length_without_element, second_expressions, second_types, second_statements, second_files, first_expressions, first_statements, no_second_expressions, no_second_types, no_second_files}
use Rattle.tree_reader.proofs.Begins.{level_high}
use Rattle.tree_reader.proofs.Sound.{readers-sound, file-sound}
use Rattle.tree_reader.proofs.Complete.{are_complete}
use Rattle.tree_reader.proofs.CompleteFile.{read_file-complete}
use Rattle.tree_reader.proofs.OneTree.{same_read, one_tree_of_any_depth}

-- `unfolding reading` opens the reader
unfoldable pub reading : Unit {0}
unfolding same_kind expression_depth statement_depth stands take past take_semicolon skip_from read_identifier
    read_optional_identifier read_more_identifiers read_identifiers read_more_expressions read_expressions
    read_expression_unless read_element read_elements read_braced_elements read_arguments read_item read_items
    read_parameters read_signature read_type_name read_struct_field read_interface_field read_fields
    read_braced_fields read_statements read_block read_bracket_type read_map_type read_channel_type
    read_literal_type read_value_spec read_type_spec read_specs read_declaration read_function read_typed
    read_operand read_slice read_index read_call read_assertion read_selector read_composite read_suffixes
    read_primary read_unary read_operators read_expression_of read_value_of read_named_type read_type_of
    read_simple_after read_simple read_header read_condition read_else read_if read_loop read_clauses read_range
    read_for_after read_for read_cases read_communication read_communications read_guard read_switch_guard
    read_switch read_select read_labeled read_started read_return read_branch read_block_statement
    read_other_statement read_statement_of readers read_import_spec read_import_specs read_import read_imports
    read_receiver_within read_body_within read_function_declaration_within read_top_level_within read_top_levels_within read_file_within
    read_more_arguments read_instance read_indexed read_term read_terms read_constraint read_type_parameter
    read_type_items read_type_parameters read_plain_type read_generic_type read_length_or_parameter read_type_arguments
    read_goto read_import_name read_function_parameters is_type is_received is_constraint begins_parameters has_separator
    type_follows has_type splits split_has_type joins
reading = tt

-- with no token left no expression goes on
nothing_follows : (end : ℕ) → CannotGoOn false 1 record { left = []; end = end }
unfolding stands
nothing_follows end = record {
  dot = λ h. absurd (true≢false (sym h));
  bracket = refl;
  parenthesis = refl;
  brace = λ h. refl;
  operator = tt;
}

-- An expression that all tokens spell is read by what may go as deep.
whole_expression : (text : GoText) (most : ℕ) (from : Cursor) (end : ℕ) (e : Expression)
    → SpellsExpression text as_expression e from record { left = []; end = end }
    → expression_depth e ≤ most
    → (readers text most).read_expression false 1 from ≡ Some (e, record { left = []; end = end })
whole_expression text most from end e s d =
    (are_complete text most).expression false 1 from record { left = []; end = end } e s (level_high e) tt d
    (nothing_follows end)

expression_is_read : (edition : Edition) (c : Case Expression)
    → (readers (read_in edition c.text) depth).read_expression false 1 (start_of c) ≡ Some (c.tree, end_of c)
    → IsReadExpression edition c
expression_is_read edition c read =
    let spelled = ((readers-sound (read_in edition c.text) depth).expression false 1 (start_of c) (end_of c) c.tree read).0 in
    record {
      read = read;
      spelled = spelled;
      only_tree = λ other s.
          let deeper = max (expression_depth other) (expression_depth c.tree) in
          same_read other c.tree (end_of c) (end_of c)
          (whole_expression (read_in edition c.text) deeper (start_of c) _ other s (omega arith))
          (whole_expression (read_in edition c.text) deeper (start_of c) _ c.tree spelled (omega arith));
    }

type_is_read : (edition : Edition) (c : Case Expression)
    → (readers (read_in edition c.text) depth).read_type (start_of c) ≡ Some (c.tree, end_of c)
    → IsReadType edition c
type_is_read edition c read =
    let spelled = ((readers-sound (read_in edition c.text) depth).type (start_of c) (end_of c) c.tree read).0 in
    record {
      read = read;
      spelled = spelled;
      only_tree = λ other s.
          let deeper = max (expression_depth other) (expression_depth c.tree) in
          let complete = (are_complete (read_in edition c.text) deeper).type (start_of c) (end_of c) in
          same_read other c.tree (end_of c) (end_of c)
          (complete other s (omega arith)) (complete c.tree spelled (omega arith));
    }

statement_is_read : (edition : Edition) (c : Case Statement)
    → (readers (read_in edition c.text) depth).read_statement (start_of c) ≡ Some (c.tree, end_of_statement c)
    → IsReadStatement edition c
statement_is_read edition c read =
    let sound = (readers-sound (read_in edition c.text) depth).statement (start_of c) (end_of_statement c) c.tree read in
    record {
      read = read;
      spelled = sound.0;
      only_tree = λ other kept s.
          let deeper = max (statement_depth other) (statement_depth c.tree) in
          let complete = (are_complete (read_in edition c.text) deeper).statement (start_of c) (end_of_statement c) in
          same_read other c.tree (end_of_statement c) (end_of_statement c)
          (complete other s kept (omega arith) refl) (complete c.tree sound.0 sound.1 (omega arith) refl);
    }

file_is_read : (edition : Edition) (c : Case SourceFile) → read_file (read_in edition c.text) (start_of c) ≡ Some (c.tree, end_of c) → IsReadFile edition c
file_is_read edition c read =
    let spelled = (file-sound (read_in edition c.text) (start_of c) (end_of c) c.tree read).0 in
    record {
      read = read;
      spelled = spelled;
      only_tree = λ other s.
          one_tree_of_any_depth (read_in edition c.text) (start_of c) (end_of c) (end_of c) other c.tree s refl spelled refl;
    }

is_no_expression : (edition : Edition) (example : Example)
    → (readers (in_edition edition example) depth).read_expression false 1 (begin example) ≡ None
    → IsNoExpression edition example
is_no_expression edition example read = record {
  read = read;
  none_spelled = λ e d s. none-some _ (sym read ∙ whole_expression (in_edition edition example) depth (begin example) _ e s d);
}

is_no_type : (edition : Edition) (example : Example) → (readers (in_edition edition example) depth).read_type (begin example) ≡ None → IsNoType edition example
is_no_type edition example read = record {
  read = read;
  none_spelled = λ t d s. none-some _ (sym read ∙ (are_complete (in_edition edition example) depth).type (begin example) _ t s d);
}

is_no_file : (edition : Edition) (example : Example) → read_file (in_edition edition example) (begin example) ≡ None → IsNoFile edition example
is_no_file edition example read = record {
  read = read;
  none_spelled = λ file d s. none-some _ (sym read ∙ read_file-complete (in_edition edition example) (begin example) _ file s refl d);
}

expressions_are_read : Each (IsReadExpression First) expressions
unfolding reading
expressions_are_read =
    expression_is_read First difference_of_difference refl and
    expression_is_read First conjunction_in_disjunction refl and
    expression_is_read First product_in_sum refl and
    expression_is_read First negated_selector refl and
    expression_is_read First star_of_selector refl and
    expression_is_read First address_of_literal refl and
    expression_is_read First received refl and
    expression_is_read First literals refl and
    expression_is_read First call_with_ellipsis refl and
    expression_is_read First call_without_arguments refl and
    expression_is_read First index_of_call refl and
    expression_is_read First slice_without_bounds refl and
    expression_is_read First slice_from refl and
    expression_is_read First slice_to refl and
    expression_is_read First slice_with_capacity refl and
    expression_is_read First assertion refl and
    expression_is_read First conversion refl and
    expression_is_read First conversion_to_pointer refl and
    expression_is_read First conversion_to_function refl and
    expression_is_read First result_and_no_conversion refl and
    expression_is_read First star_of_conversion refl and
    expression_is_read First received_of_conversion refl and
    expression_is_read First literal_called_at_once refl and
    expression_is_read First literal_of_functions refl and
    expression_is_read First literal_of_package refl and
    expression_is_read First elements_in_braces refl and
    expression_is_read First array_literal refl and
    expression_is_read First sums refl and
    expression_is_read First products refl and
    expression_is_read First comparisons refl and
    expression_is_read First signs refl and
    expression_is_read First negation_of_brackets refl and
    tt

types_are_read : Each (IsReadType First) types
unfolding reading
types_are_read =
    type_is_read First sends_channels refl and
    type_is_read First receives_in_brackets refl and
    type_is_read First receives_receivers refl and
    type_is_read First map_of_arrays refl and
    type_is_read First names_with_one_type refl and
    type_is_read First two_types refl and
    type_is_read First named_and_pointer refl and
    type_is_read First pointer_among_names refl and
    type_is_read First variadic refl and
    type_is_read First one_result refl and
    type_is_read First fields_with_tags refl and
    type_is_read First methods refl and
    tt

statements_are_read : Each (IsReadStatement First) statements
unfolding reading
statements_are_read =
    statement_is_read First sent refl and
    statement_is_read First incremented refl and
    statement_is_read First decremented refl and
    statement_is_read First assigned refl and
    statement_is_read First defined refl and
    statement_is_read First assigned_sums refl and
    statement_is_read First assigned_products refl and
    statement_is_read First started refl and
    statement_is_read First deferred refl and
    statement_is_read First returned refl and
    statement_is_read First returned_nothing refl and
    statement_is_read First break_with_label refl and
    statement_is_read First continued refl and
    statement_is_read First condition_with_brackets refl and
    statement_is_read First condition_with_slice refl and
    statement_is_read First otherwise_if refl and
    statement_is_read First condition_after_definition refl and
    statement_is_read First loop_without_header refl and
    statement_is_read First loop_while refl and
    statement_is_read First loop_of_semicolons refl and
    statement_is_read First loop_that_counts refl and
    statement_is_read First range_alone refl and
    statement_is_read First range_defined refl and
    statement_is_read First range_assigned refl and
    statement_is_read First type_switch refl and
    statement_is_read First type_switch_with_name refl and
    statement_is_read First type_switch_after_definition refl and
    statement_is_read First switch_without_tag refl and
    statement_is_read First two_defaults refl and
    statement_is_read First select_of_nothing refl and
    statement_is_read First select_of_all refl and
    statement_is_read First label_before_brace refl and
    statement_is_read First label_of_label refl and
    statement_is_read First empty_statements refl and
    statement_is_read First block_in_block refl and
    statement_is_read First constants_in_group refl and
    statement_is_read First constant_with_type refl and
    statement_is_read First variable_without_value refl and
    statement_is_read First types_in_group refl and
    tt

files_are_read : Each (IsReadFile First) files
unfolding reading
files_are_read =
    file_is_read First no_declaration refl and
    file_is_read First method_with_receiver refl and
    file_is_read First function_without_body refl and
    file_is_read First whole_file refl and
    file_is_read First groups refl and
    tt

no_expression_is_read : Each (IsNoExpression First) not_expressions
unfolding reading
no_expression_is_read =
    is_no_expression First no_right_operand refl and
    is_no_expression First no_comma refl and
    is_no_expression First no_index refl and
    is_no_expression First no_capacity refl and
    is_no_expression First braces_alone refl and
    is_no_expression First two_indexes refl and
    is_no_expression First guard_outside refl and
    is_no_expression First bare_literal_in_header refl and
    is_no_expression First go_without_call refl and
    is_no_expression First constant_without_value refl and
    is_no_expression First definition_as_condition refl and
    is_no_expression First increment_as_communication refl and
    is_no_expression First jump refl and
    is_no_expression First fall_through refl and
    is_no_expression First no_semicolon refl and
    tt

no_type_is_read : Each (IsNoType First) not_types
unfolding reading
no_type_is_read =
    is_no_type First last_name_without_type refl and
    is_no_type First two_embedded refl and
    is_no_type First embedded_pointer_in_interface refl and
    is_no_type First union refl and
    tt

no_file_is_read : Each (IsNoFile First) not_files
unfolding reading
no_file_is_read =
    is_no_file First import_of_all_names refl and
    is_no_file First import_after_declaration refl and
    is_no_file First type_parameters refl and
    tt

second_expressions_are_read : Each (IsReadExpression Second) second_expressions
unfolding reading
second_expressions_are_read =
    expression_is_read Second two_arguments refl and
    expression_is_read Second one_argument_and_comma refl and
    expression_is_read Second called_instance refl and
    expression_is_read Second literal_of_instance refl and
    expression_is_read Second slice_of_instances_as_operand refl and
    expression_is_read Second comparisons_in_call refl and
    tt

second_types_are_read : Each (IsReadType Second) second_types
unfolding reading
second_types_are_read =
    type_is_read Second map_of_instances refl and
    type_is_read Second array_and_instance refl and
    type_is_read Second array_and_embedded refl and
    type_is_read Second union_and_name refl and
    tt

second_statements_are_read : Each (IsReadStatement Second) second_statements
unfolding reading
second_statements_are_read =
    statement_is_read Second parameters_with_one_constraint refl and
    statement_is_read Second alias_with_parameter refl and
    statement_is_read Second product_as_length refl and
    statement_is_read Second call_as_length refl and
    statement_is_read Second pointer_and_comma refl and
    statement_is_read Second pointer_or_tilde refl and
    statement_is_read Second pointer_to_slice refl and
    statement_is_read Second function_type_in_parentheses refl and
    statement_is_read Second pointer_to_channel_or_name refl and
    statement_is_read Second array_as_constraint refl and
    statement_is_read Second index_as_length refl and
    statement_is_read Second jump_to_label refl and
    statement_is_read Second fall refl and
    tt

second_files_are_read : Each (IsReadFile Second) second_files
unfolding reading
second_files_are_read =
    file_is_read Second function_with_parameters refl and
    file_is_read Second dot_import refl and
    tt

first_expressions_are_read : Each (IsReadExpression First) first_expressions
unfolding reading
first_expressions_are_read =
    expression_is_read First index_of_slice_type refl and
    tt

first_statements_are_read : Each (IsReadStatement First) first_statements
unfolding reading
first_statements_are_read =
    statement_is_read First product_of_slice_type refl and
    tt

no_second_expression_is_read : Each (IsNoExpression Second) no_second_expressions
unfolding reading
no_second_expression_is_read =
    is_no_expression Second sum_in_brackets_of_literal refl and
    is_no_expression Second tilde_in_expression refl and
    is_no_expression Second literal_of_instance_in_header refl and
    tt

no_second_type_is_read : Each (IsNoType Second) no_second_types
unfolding reading
no_second_type_is_read =
    is_no_type Second sum_as_argument refl and
    is_no_type Second two_arguments_and_type refl and
    is_no_type Second parameters_of_element refl and
    is_no_type Second number_as_argument refl and
    tt

no_second_file_is_read : Each (IsNoFile Second) no_second_files
unfolding reading
no_second_file_is_read =
    is_no_file Second method_with_parameters refl and
    is_no_file Second no_type_parameter refl and
    is_no_file Second length_without_element refl and
    tt

pub computed_trees : ComputedTrees
computed_trees = record {
  expressions_are_read = expressions_are_read;
  types_are_read = types_are_read;
  statements_are_read = statements_are_read;
  files_are_read = files_are_read;
  no_expression_is_read = no_expression_is_read;
  no_type_is_read = no_type_is_read;
  no_file_is_read = no_file_is_read;
  second_expressions_are_read = second_expressions_are_read;
  second_types_are_read = second_types_are_read;
  second_statements_are_read = second_statements_are_read;
  second_files_are_read = second_files_are_read;
  first_expressions_are_read = first_expressions_are_read;
  first_statements_are_read = first_statements_are_read;
  no_second_expression_is_read = no_second_expression_is_read;
  no_second_type_is_read = no_second_type_is_read;
  no_second_file_is_read = no_second_file_is_read;
}
