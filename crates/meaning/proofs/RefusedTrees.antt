-- Each of the refused trees breaks a rule.
use Rattle.std.proofs.Common.{◌≡◌, ◌⊎◌, false, drop, inl, inr, sym, ap, ◌∙◌, true≢false, arith}
use Rattle.meaning.specs.Cursor.{Cursor, first_is, is_next}
use Rattle.meaning.specs.OperatorTokens.{is_arrow, takes_arguments}
use Rattle.meaning.specs.TreeExamples.{SpellsNothing, IsNotSpelled, expression, type_of, statement, chain_to_the_right, selector_of_negated, name_of_two_dots, receiver, empty_in_block, go_without_call, constant_without_value, bare_literal_in_header, type_in_brackets, name_at_the_end, bare_type_at_the_end, send_only_text, channel_of_receivers, guard_text, in_edition, IsSpelledIn, SpellsNothingIn, begin, index_of_slice_type, instance, length_text, parameter_for_length, tilde_before_operand, RefusedTrees}
use Rattle.tree.specs.declared.edition.Edition.{Edition}
use Rattle.tree.specs.declared.edition.Edition.TheVariants.{First, Second}
use Rattle.tree.specs.Syntax.{Expression}
use Rattle.meaning.specs.Grammar.{as_expression, as_constraint}
use Rattle.meaning.specs.TypeParameters.{begins_parameters, has_separator, type_follows, joins, has_type}
use Rattle.meaning.proofs.GuardOperand.{name_alone, no_guard}
use Rattle.meaning.proofs.Spelled.{spelling}
use Rattle.meaning.proofs.FirstTokens.{begins, leaves}

right_refused : SpellsNothing (expression chain_to_the_right)
unfolding spelling
right_refused text from to h = omega (arith, h.0.1.0.1)

selector_refused : SpellsNothing (expression selector_of_negated)
unfolding spelling
selector_refused text from to h = omega (arith, h.0.0)

two_dots_refused : SpellsNothing (type_of name_of_two_dots)
unfolding spelling
two_dots_refused text from to h = true≢false (sym h.0.0)

header_refused : SpellsNothing (statement bare_literal_in_header)
unfolding spelling
header_refused text from to h = true≢false h.0.1.0

brackets_refused : SpellsNothing (type_of type_in_brackets)
unfolding spelling
brackets_refused text from to h = true≢false h.0.2.1.1.2.1.1.0

last_name_refused : SpellsNothing (type_of name_at_the_end)
unfolding spelling
last_name_refused text from to h = h.0.2.1.0.1

last_type_refused : SpellsNothing (type_of bare_type_at_the_end)
unfolding spelling
last_type_refused text from to h = true≢false h.0.2.1.0.0

both_directions_refused : IsNotSpelled send_only_text (type_of channel_of_receivers)
unfolding spelling
both_directions_refused edition to h = true≢false (sym (ap (first_is is_arrow) (leaves h.0.1.1)) ∙ h.0.1.2.1)

receiver_refused : SpellsNothing (expression receiver)
unfolding spelling
receiver_refused text from to h = h.0.1

empty_refused : SpellsNothing (statement empty_in_block)
unfolding spelling
empty_refused text from to h = h.0.0.2.1.2.1.0

go_refused : SpellsNothing (statement go_without_call)
unfolding spelling
go_refused text from to h = true≢false (sym h.0.0)

constant_refused : SpellsNothing (statement constant_without_value)
unfolding spelling
constant_refused text from to h = h.0.0.2.0

-- the bracket behind the name is the name's
index_refused : SpellsNothingIn Second (expression index_of_slice_type)
unfolding spelling
index_refused bytes from to h =
    let parts = h.0.1.1 in
    let slice = parts.1.0.2 in
    let no_bracket = slice.1.0.2.2 in
    let test = takes_arguments Second in
    true≢false (sym (begins test parts.2.1) ∙ ap (is_next test) (sym (no_bracket.0 ∙ slice.2.0)) ∙ no_bracket.1)

instance_refused : SpellsNothingIn First (type_of instance)
unfolding spelling
instance_refused bytes from to h = h.0.0.0

tilde_refused : SpellsNothing (expression tilde_before_operand)
unfolding spelling
tilde_refused text from to h = let e : as_expression ≡ as_constraint = h.0.0 in cc

neither : {P Q : Type 0} → (P → ⊥) → (Q → ⊥) → P ⊎ Q → ⊥
neither p q (inl x) = p x
neither p q (inr x) = q x

-- no tokens say so, and the constraint has no type but a name
parameter_refused : (to : Cursor)
    → statement parameter_for_length (in_edition Second length_text) (begin length_text) to
    → ⊥
unfolding spelling begins_parameters has_separator type_follows joins has_type
parameter_refused to h =
    let parts = h.0.0.2.1.1.0 in
    let tokens = leaves parts.1.0.0 ∙ ap (drop 1) (leaves h.0.0.1) in
    let none : begins_parameters parts.0.left ≡ false = ap begins_parameters tokens in
    neither (λ x. true≢false (sym x.1 ∙ none)) (λ x. true≢false (sym x.0)) parts.2.1.1

guard_alone_refused : (edition : Edition) (e : Expression) → IsSpelledIn edition guard_text (expression e) → ⊥
guard_alone_refused edition e h = let bad = name_alone (in_edition edition guard_text) as_expression e _ h in cc

pub refused_trees : RefusedTrees
refused_trees =
    record {
      nested_to_the_right = right_refused;
      selector_of_operation = selector_refused;
      two_dots = two_dots_refused;
      bare_literal = header_refused;
      result_in_brackets = brackets_refused;
      last_name = last_name_refused;
      last_type = last_type_refused;
      arrow_left_behind = both_directions_refused;
      arrow_as_operator = receiver_refused;
      empty_statement_kept = empty_refused;
      no_call = go_refused;
      no_value = constant_refused;
      index_behind_name = index_refused;
      instance_in_the_first = instance_refused;
      parameter_in_brackets = parameter_refused;
      tilde_outside = tilde_refused;
      guard_as_assertion = λ e t span edition to h. no_guard (in_edition edition guard_text) e t span to h;
      guard_as_expression = guard_alone_refused;
    }
