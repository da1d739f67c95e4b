-- No expression begins as a labeled statement does, with a name and a colon.
use Rattle.std.proofs.Common.{◌≡◌, ℕ, Bool, true, false, List, None, refl, ap, ◌∙◌, subst}
use Rattle.std.specs.Prelude.{◌&&◌}
use Rattle.lexer.specs.Spelling.{same_kind}
use Rattle.lexer.specs.declared.token.TokenKind.{TokenKind}
use Rattle.lexer.specs.declared.token.TokenKind.TheVariants.{Identifier as identifier_kind, ConstKeyword, VarKeyword, TypeKeyword, Colon}
use Rattle.tree.specs.declared.operator.BasicLitKind.{BasicLitKind}
use Rattle.tree.specs.declared.operator.BasicLitKind.TheVariants.{Number}
use Rattle.tree.specs.declared.operator.BinaryOperator.{BinaryOperator}
use Rattle.tree.specs.declared.operator.BinaryOperator.TheVariants.{LogicalOr}
use Rattle.tree.specs.declared.operator.UnaryOperator.{UnaryOperator}
use Rattle.tree.specs.declared.operator.UnaryOperator.TheVariants.{Plus}
use Rattle.tree.specs.declared.operator.ChanDirection.TheVariants.{Both, Send, Receive as receive_only}
use Rattle.tree.specs.Syntax.{Expression, expression_node, ExpressionForm, name_expression, basic_literal, function_literal, composite_literal, literal_value, key_value, parenthesized, selector_expression, index_expression, slice_expression, type_assertion, call_expression, star_expression, unary_expression, binary_expression, array_type, ellipsis_array_type, slice_type, map_type, channel_type, function_type, struct_type, interface_type, instance_expression}
use Rattle.meaning.specs.Cursor.{GoText, Cursor, TakesToken, is_next}
use Rattle.meaning.specs.OperatorTokens.{operator_token, unary_token, literal_token}
use Rattle.meaning.specs.Grammar.{Position, as_type, as_expression, as_value, as_element, SpellsExpression, SpellsForm, as_constraint}
use Rattle.tree_reader.specs.Reading.{stands, behind}
use Rattle.tree_reader.specs.Reader.{of_next, declaration_keyword}
use Rattle.tree_reader.proofs.Taken.{behind_gives, stands_other, of_next_none}
use Rattle.tree_reader.proofs.Begins.{begins_expression}

no_keyword : (k : TokenKind) → begins_expression k ≡ true → declaration_keyword k ≡ None
no_keyword ConstKeyword e = cc
no_keyword VarKeyword e = cc
no_keyword TypeKeyword e = cc
no_keyword _ e = refl

pub no_declaration : (place : Cursor) → is_next begins_expression place ≡ true → of_next declaration_keyword place ≡ None
no_declaration place e = of_next_none begins_expression declaration_keyword place no_keyword e

-- A label and its colon stand here.
abbrev pub labels : Cursor → Bool
labels place = stands identifier_kind place && stands Colon (behind place)

-- No label stands where what is read begins, unless a colon follows it.
abbrev pub BeginsNoLabel : Cursor → Cursor → Type 0
BeginsNoLabel from to = stands Colon to ≡ false → labels from ≡ false

pub no_label : {kind : TokenKind} {from after : Cursor} → TakesToken kind from after → same_kind kind identifier_kind ≡ false → labels from ≡ false
no_label {from = from} t e = ap (λ b. b && stands Colon (behind from)) (stands_other t identifier_kind e)

and_false : (b c : Bool) → c ≡ false → (b && c) ≡ false
and_false true c e = e
and_false false c e = refl

pub after_name : {from to : Cursor} → TakesToken identifier_kind from to → BeginsNoLabel from to
after_name {from = from} t e = and_false (stands identifier_kind from) _ (ap (stands Colon) (behind_gives t) ∙ e)

operator-no_colon : (op : BinaryOperator) → same_kind (operator_token op) Colon ≡ false
unfolding same_kind
operator-no_colon LogicalOr = refl
operator-no_colon _ = refl

unary-no_name : (op : UnaryOperator) → same_kind (unary_token op) identifier_kind ≡ false
unfolding same_kind
unary-no_name Plus = refl
unary-no_name _ = refl

literal-no_name : (kind : BasicLitKind) → same_kind (literal_token kind) identifier_kind ≡ false
unfolding same_kind
literal-no_name Number = refl
literal-no_name _ = refl

abbrev pub IsPlain : Position → Type 0
IsPlain as_type = Unit {0}
IsPlain as_expression = Unit {0}
IsPlain place = ⊥

module _ (text : GoText) where
  mutual
    unfolding SpellsExpression SpellsForm same_kind

    pub expression-label : (place : Position) (e : Expression) (from to : Cursor) → IsPlain place → SpellsExpression text place e from to → BeginsNoLabel from to
    expression-label place (expression_node form span) from to h s = form-label place form from to h s.0

    form-label : (place : Position) (form : ExpressionForm) (from to : Cursor) → IsPlain place → SpellsForm text place form from to → BeginsNoLabel from to
    form-label as_type (name_expression name) from to h s = subst (BeginsNoLabel from) (s.2.1.0 ∙ s.2.2.0) (after_name s.1.0)
    form-label as_expression (name_expression name) from to h s = subst (BeginsNoLabel from) s.2 (after_name s.1.0)
    form-label place (basic_literal kind) from to h s = λ colon. no_label s.1 (literal-no_name kind)
    form-label place (function_literal signature ss braces) from to h s = λ colon. no_label s.1.1 refl
    form-label place (composite_literal t es) from to h s = λ colon. expression-label as_type t from s.1.1.0 tt s.1.1.1 (stands_other s.1.1.2.1 Colon refl)
    form-label as_type (literal_value es) from to h s = λ colon. absurd s.0
    form-label as_expression (literal_value es) from to h s = absurd s.0
    form-label as_type (key_value k v) from to h s = λ colon. let no_element : as_type ≡ as_element = s.0 in cc
    form-label as_expression (key_value k v) from to h s = λ colon. let no_element : as_expression ≡ as_element = s.0 in cc
    form-label place (parenthesized e) from to h s = λ colon. no_label s.1 refl
    form-label place (selector_expression e n) from to h s = λ colon. expression-label as_expression e from s.1.0 tt s.1.1 (stands_other s.1.2.1 Colon refl)
    form-label place (index_expression e i) from to h s = λ colon. expression-label as_expression e from s.1.1.0 tt s.1.1.1 (stands_other s.1.1.2.1 Colon refl)
    form-label place (instance_expression e es) from to h s = λ colon. expression-label as_expression e from s.1.1.1.0 tt s.1.1.1.1 (stands_other s.1.1.1.2.1 Colon refl)
    form-label place (slice_expression e low high most) from to h s = λ colon. expression-label as_expression e from s.1.1.0 tt s.1.1.1 (stands_other s.1.1.2.1 Colon refl)
    form-label place (type_assertion e t) from to h s = λ colon. expression-label as_expression e from s.1.1.0 tt s.1.1.1 (stands_other s.1.1.2.1 Colon refl)
    form-label place (call_expression e es ellipsis) from to h s = λ colon. expression-label as_expression e from s.1.1.0 tt s.1.1.1 (stands_other s.1.1.2.1 Colon refl)
    form-label place (star_expression e) from to h s = λ colon. no_label s.1.1 refl
    form-label place (unary_expression op e) from to h s = λ colon. no_label s.1.1.1 (unary-no_name op)
    form-label as_type (binary_expression op l r) from to h s = absurd s.0
    form-label as_expression (binary_expression op l r) from to h s = λ colon. expression-label as_expression l from s.1.1.0 tt s.1.1.1 (stands_other s.1.1.2.1 Colon (operator-no_colon op))
    form-label place (array_type n t) from to h s = λ colon. no_label s.1.1 refl
    form-label place (ellipsis_array_type t) from to h s = λ colon. no_label s.1.1 refl
    form-label place (slice_type t) from to h s = λ colon. no_label s.1.1 refl
    form-label place (map_type k t) from to h s = λ colon. no_label s.1 refl
    form-label as_type (channel_type Both t) from to h s = λ colon. no_label s.1.1 refl
    form-label as_type (channel_type Send t) from to h s = λ colon. no_label s.1.1 refl
    form-label as_type (channel_type receive_only t) from to h s = λ colon. no_label s.1.1 refl
    form-label as_expression (channel_type Both t) from to h s = λ colon. no_label s.1.1 refl
    form-label as_expression (channel_type Send t) from to h s = λ colon. no_label s.1.1 refl
    form-label as_expression (channel_type receive_only t) from to h s = absurd s.1
    form-label place (function_type signature) from to h s = λ colon. no_label s.1 refl
    form-label place (struct_type fs) from to h s = λ colon. no_label s.1 refl
    form-label place (interface_type fs) from to h s = λ colon. no_label s.1 refl
    form-label as_value form from to h s = absurd h
    form-label as_element form from to h s = absurd h
    form-label as_constraint form from to h s = absurd h
