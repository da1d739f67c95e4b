-- Each delicate text has its tree. A proof goes through the tree and takes token after token.
use Rattle.std.proofs.Common.{refl, arith, inl, inr}
use Rattle.meaning.specs.Cursor.{no_semicolon}
use Rattle.meaning.specs.TreeExamples.{IsSpelled, expression, type_of, statement, chain_text, chain, levels_text, levels, negated_text, negated, send_only_text, send_only, receivers_text, receivers, literal_text, literal_of_functions, qualified_text, qualified_literal, call_text, call_with_ellipsis, named_text, one_type_for_two, mixed_text, type_among_names, types_text, two_types, result_text, list_of_one_result, embedded_text, embedded_pointer, header_text, literal_in_brackets, semicolons_text, empty_header, range_text, range_without_names, switch_text, type_switch, label_text, label_at_the_end, DelicateTrees}
use Rattle.meaning.proofs.Spelled.{spelling, no_arguments, taken, semicolon_taken, ◌by◌then◌, ◌and◌, there}

chain_spelled : IsSpelled chain_text (expression chain)
unfolding spelling
chain_spelled edition =
    there (tt and (omega arith, omega arith) and
    _ by there (tt and (omega arith, omega arith) and
    _ by there (_ by taken and refl then refl)
    then _ by taken
    then there (_ by taken and refl then refl))
    then _ by taken
    then there (_ by taken and refl then refl))

levels_spelled : IsSpelled levels_text (expression levels)
unfolding spelling
levels_spelled edition =
    there (tt and (omega arith, omega arith) and
    _ by there (_ by taken and refl then refl)
    then _ by taken
    then there (tt and (omega arith, omega arith) and
    _ by there (_ by taken and refl then refl)
    then _ by taken
    then there (tt and (omega arith, omega arith) and
    _ by there (_ by taken and refl then refl)
    then _ by taken
    then there (_ by taken and refl then refl))))

negated_spelled : IsSpelled negated_text (expression negated)
unfolding spelling
negated_spelled edition =
    there (tt and omega arith and
    _ by taken
    then there (refl and
    _ by there (_ by taken and refl then refl)
    then _ by taken
    then _ by there (taken and refl) then refl))

send_only_spelled : IsSpelled send_only_text (type_of send_only)
unfolding spelling
send_only_spelled edition =
    there (_ by (_ by taken then taken)
    then _ by there (_ by (_ by taken then (refl and refl))
    then _ by there (_ by taken and refl then _ by (refl and refl) then no_arguments edition refl)
    then refl)
    then refl)

receivers_spelled : IsSpelled receivers_text (type_of receivers)
unfolding spelling
receivers_spelled edition =
    there (_ by (_ by taken then taken)
    then _ by there (_ by (_ by taken then taken)
    then _ by there (_ by taken and refl then _ by (refl and refl) then no_arguments edition refl)
    then refl)
    then refl)

literal_spelled : IsSpelled literal_text (expression literal_of_functions)
unfolding spelling
literal_spelled edition =
    there (tt and refl and
    _ by there (_ by (_ by taken then _ by refl then taken)
    then _ by there (_ by taken
    then _ by (tt and _ by (_ by taken then _ by refl then taken) then (refl and refl))
    then refl)
    then refl)
    then _ by taken
    then _ by (_ by (_ by there (_ by taken and refl then refl) then refl) then inl refl)
    then taken)

qualified_spelled : IsSpelled qualified_text (expression qualified_literal)
unfolding spelling
qualified_spelled edition =
    there (tt and refl and
    _ by there (refl and _ by there (_ by taken and refl then refl) then _ by taken
    then _ by there (taken and refl) then no_arguments edition refl)
    then _ by taken
    then _ by refl
    then taken)

call_spelled : IsSpelled call_text (expression call_with_ellipsis)
unfolding spelling
call_spelled edition =
    there (tt and refl and
    _ by there (_ by taken and refl then refl)
    then _ by taken
    then _ by (_ by (_ by there (_ by taken and refl then refl) then refl) then _ by taken then inr taken)
    then taken)

named_spelled : IsSpelled named_text (type_of one_type_for_two)
unfolding spelling
named_spelled edition =
    there (_ by taken
    then _ by ((refl, tt, tt) and
    _ by (_ by taken
    then _ by (_ by refl
    then _ by there (taken and refl)
    then _ by taken
    then _ by there (taken and refl)
    then _ by refl
    then _ by there (_ by taken and refl then _ by (refl and refl) then no_arguments edition refl)
    then inl refl)
    then taken)
    then (refl and refl))
    then refl)

mixed_spelled : IsSpelled mixed_text (type_of type_among_names)
unfolding spelling
mixed_spelled edition =
    there (_ by taken
    then _ by ((refl, tt, (refl, tt)) and
    _ by (_ by taken
    then _ by (_ by refl
    then _ by there (taken and refl)
    then _ by taken
    then _ by refl
    then _ by there (tt and _ by taken then there (_ by taken and refl then _ by (refl and refl) then no_arguments edition refl))
    then _ by taken
    then _ by there (taken and refl)
    then _ by refl
    then _ by there (_ by taken and refl then _ by (refl and refl) then no_arguments edition refl)
    then inl refl)
    then taken)
    then (refl and refl))
    then refl)

types_spelled : IsSpelled types_text (type_of two_types)
unfolding spelling
types_spelled edition =
    there (_ by taken
    then _ by ((refl, (refl, tt)) and
    _ by (_ by taken
    then _ by (_ by refl
    then _ by refl
    then _ by there (_ by taken and refl then _ by (refl and refl) then no_arguments edition refl)
    then _ by taken
    then _ by refl
    then _ by there (_ by taken and refl then _ by (refl and refl) then no_arguments edition refl)
    then inl refl)
    then taken)
    then (refl and refl))
    then refl)

result_spelled : IsSpelled result_text (type_of list_of_one_result)
unfolding spelling
result_spelled edition =
    there (_ by taken
    then _ by (tt and
    _ by (_ by taken then _ by refl then taken)
    then ((refl, tt) and
    _ by taken
    then _ by (_ by refl then _ by refl then _ by there (_ by taken and refl then _ by (refl and refl) then no_arguments edition refl) then inl refl)
    then taken))
    then refl)

embedded_spelled : IsSpelled embedded_text (type_of embedded_pointer)
unfolding spelling
embedded_spelled edition =
    there (_ by taken
    then _ by (_ by taken
    then _ by (tt and
    _ by there (_ by taken
    then _ by there (_ by (_ by there (taken and refl) then taken) then there (taken and refl))
    then there (inl taken))
    then _ by inr (refl and refl)
    then refl)
    then taken)
    then refl)

header_spelled : IsSpelled header_text (statement literal_in_brackets)
unfolding spelling
header_spelled edition =
    there (tt and refl and
    _ by taken
    then _ by refl
    then _ by there (tt and (omega arith, omega arith) and
    _ by there (_ by taken and refl then refl)
    then _ by taken
    then there (_ by taken
    then _ by there (tt and refl and
    _ by there (_ by taken and refl then _ by (refl and refl) then no_arguments edition refl)
    then _ by taken
    then _ by refl
    then taken)
    then taken))
    then _ by there (_ by taken then _ by no_semicolon then taken)
    then refl)

semicolons_spelled : IsSpelled semicolons_text (statement empty_header)
unfolding spelling
semicolons_spelled edition =
    there (tt and tt and tt and
    _ by taken
    then _ by (_ by refl
    then _ by inl semicolon_taken
    then _ by refl
    then _ by inl semicolon_taken
    then refl)
    then there (_ by taken then _ by no_semicolon then taken))

range_spelled : IsSpelled range_text (statement range_without_names)
unfolding spelling
range_spelled edition =
    there (tt and refl and
    _ by taken
    then _ by refl
    then _ by taken
    then _ by there (_ by taken and refl then refl)
    then there (_ by taken then _ by no_semicolon then taken))

switch_spelled : IsSpelled switch_text (statement type_switch)
unfolding spelling
switch_spelled edition =
    there (tt and refl and refl and
    _ by taken
    then _ by refl
    then _ by (_ by there (taken and refl) then taken)
    then _ by there (_ by taken and refl then refl)
    then _ by taken
    then _ by (_ by taken then _ by taken then taken)
    then _ by taken
    then _ by (_ by there (_ by taken then _ by taken then no_semicolon) then refl)
    then taken)

label_spelled : IsSpelled label_text (statement label_at_the_end)
unfolding spelling
label_spelled edition =
    there (there (_ by taken
    then _ by (_ by no_semicolon
    then _ by (tt and there (_ by there (taken and refl) then _ by taken then there refl))
    then _ by inr (refl and refl)
    then no_semicolon)
    then taken))

pub delicate_trees : DelicateTrees
delicate_trees =
    record {
      nests_to_the_left = chain_spelled;
      nests_by_level = levels_spelled;
      selects_first = negated_spelled;
      arrow_behind_chan = send_only_spelled;
      arrow_before_chan = receivers_spelled;
      braces_behind_type = literal_spelled;
      braces_behind_name = qualified_spelled;
      comma_behind_dots = call_spelled;
      names_with_one_type = named_spelled;
      type_among_names = mixed_spelled;
      types_alone = types_spelled;
      list_of_results = result_spelled;
      embedded_with_tag = embedded_spelled;
      literal_in_header = header_spelled;
      semicolons_alone = semicolons_spelled;
      range_alone = range_spelled;
      guard_with_name = switch_spelled;
      label_before_brace = label_spelled;
    }
