-- What the reader's tables say of the next token.
use Rattle.std.proofs.Common.{◌≡◌, ℕ, Bool, true, List, [], ◌∷◌, inl, inr, refl, ap, subst}
use Rattle.std.specs.Prelude.{Some}
use Rattle.std.proofs.lemmas.Option.{none-some, same_Some}
use Rattle.lexer.specs.declared.token.Token.{Token}
use Rattle.lexer.specs.declared.token.TokenKind.{TokenKind}
use Rattle.lexer.specs.declared.token.TokenKind.TheVariants.{Number as number_token, Rune as rune_token, InterpretedString as interpreted_string_token, RawString as raw_string_token, ConstKeyword, TypeKeyword, VarKeyword, Plus as plus_token, Minus, Star, Slash, Percent, Ampersand, Pipe, Caret, ShiftLeft as shift_left_token, ShiftRight as shift_right_token, AndNot as and_not_token, PlusAssign, MinusAssign, StarAssign, SlashAssign, PercentAssign, AmpersandAssign, PipeAssign, CaretAssign, ShiftLeftAssign, ShiftRightAssign, AndNotAssign, LogicalAnd as logical_and_token, LogicalOr as logical_or_token, Arrow, EqualEqual, LessThan, GreaterThan, Bang, NotEqual as not_equal_token, LessOrEqual as less_or_equal_token, GreaterOrEqual as greater_or_equal_token}
use Rattle.tree.specs.declared.operator.BasicLitKind.{BasicLitKind}
use Rattle.tree.specs.declared.operator.BinaryOperator.{BinaryOperator}
use Rattle.tree.specs.declared.operator.UnaryOperator.{UnaryOperator}
use Rattle.tree.specs.declared.operator.DeclKeyword.{DeclKeyword}
use Rattle.meaning.specs.Cursor.{Cursor, TakesToken, string_token, first_is, is_next}
use Rattle.meaning.specs.OperatorTokens.{operator_token, assign_operator, unary_token, literal_token, keyword_token}
use Rattle.tree_reader.specs.Reading.{behind}
use Rattle.tree_reader.specs.Reader.{of_next, unary_operator, binary_operator, assigning_operator, literal_kind, declaration_keyword, is_string}
use Rattle.meaning.specs.Grammar.{as_expression, CanOperate}
use Rattle.tree_reader.proofs.Steps.{given, of_next-sound}

literal_kind-token : (kind : TokenKind) (a : BasicLitKind) → literal_kind kind ≡ Some a → kind ≡ literal_token a
literal_kind-token number_token a e = ap literal_token (same_Some _ a e)
literal_kind-token rune_token a e = ap literal_token (same_Some _ a e)
literal_kind-token interpreted_string_token a e = ap literal_token (same_Some _ a e)
literal_kind-token raw_string_token a e = ap literal_token (same_Some _ a e)
literal_kind-token _ a e = absurd (none-some a e)

pub literal_kind-sound : (place : Cursor) (a : BasicLitKind)
    → of_next literal_kind place ≡ Some a
    → TakesToken (literal_token a) place (behind place)
literal_kind-sound place a e =
    let h = of_next-sound literal_kind place a e in
    subst (λ (k : TokenKind). TakesToken k place (behind place)) (literal_kind-token h.0 a h.1) h.2

unary_operator-token : (kind : TokenKind) (a : UnaryOperator) → unary_operator kind ≡ Some a → kind ≡ unary_token a
unary_operator-token plus_token a e = ap unary_token (same_Some _ a e)
unary_operator-token Minus a e = ap unary_token (same_Some _ a e)
unary_operator-token Bang a e = ap unary_token (same_Some _ a e)
unary_operator-token Caret a e = ap unary_token (same_Some _ a e)
unary_operator-token Ampersand a e = ap unary_token (same_Some _ a e)
unary_operator-token Arrow a e = ap unary_token (same_Some _ a e)
unary_operator-token _ a e = absurd (none-some a e)

pub unary_operator-sound : (place : Cursor) (a : UnaryOperator)
    → of_next unary_operator place ≡ Some a
    → TakesToken (unary_token a) place (behind place)
unary_operator-sound place a e =
    let h = of_next-sound unary_operator place a e in
    subst (λ (k : TokenKind). TakesToken k place (behind place)) (unary_operator-token h.0 a h.1) h.2

-- no operator of the table stands in constraints alone
operates : (kind : TokenKind) (a : UnaryOperator) → unary_operator kind ≡ Some a → CanOperate as_expression a
operates plus_token a e = given (CanOperate as_expression) _ a e tt
operates Minus a e = given (CanOperate as_expression) _ a e tt
operates Bang a e = given (CanOperate as_expression) _ a e tt
operates Caret a e = given (CanOperate as_expression) _ a e tt
operates Ampersand a e = given (CanOperate as_expression) _ a e tt
operates Arrow a e = given (CanOperate as_expression) _ a e tt
operates _ a e = absurd (none-some a e)

pub unary_operator-operates : (place : Cursor) (a : UnaryOperator)
    → of_next unary_operator place ≡ Some a
    → CanOperate as_expression a
unary_operator-operates place a e =
    let h = of_next-sound unary_operator place a e in
    operates h.0 a h.1

binary_operator-token : (kind : TokenKind) (a : BinaryOperator)
    → binary_operator kind ≡ Some a
    → kind ≡ operator_token a
binary_operator-token logical_or_token a e = ap operator_token (same_Some _ a e)
binary_operator-token logical_and_token a e = ap operator_token (same_Some _ a e)
binary_operator-token EqualEqual a e = ap operator_token (same_Some _ a e)
binary_operator-token not_equal_token a e = ap operator_token (same_Some _ a e)
binary_operator-token LessThan a e = ap operator_token (same_Some _ a e)
binary_operator-token less_or_equal_token a e = ap operator_token (same_Some _ a e)
binary_operator-token GreaterThan a e = ap operator_token (same_Some _ a e)
binary_operator-token greater_or_equal_token a e = ap operator_token (same_Some _ a e)
binary_operator-token plus_token a e = ap operator_token (same_Some _ a e)
binary_operator-token Minus a e = ap operator_token (same_Some _ a e)
binary_operator-token Pipe a e = ap operator_token (same_Some _ a e)
binary_operator-token Caret a e = ap operator_token (same_Some _ a e)
binary_operator-token Star a e = ap operator_token (same_Some _ a e)
binary_operator-token Slash a e = ap operator_token (same_Some _ a e)
binary_operator-token Percent a e = ap operator_token (same_Some _ a e)
binary_operator-token shift_left_token a e = ap operator_token (same_Some _ a e)
binary_operator-token shift_right_token a e = ap operator_token (same_Some _ a e)
binary_operator-token Ampersand a e = ap operator_token (same_Some _ a e)
binary_operator-token and_not_token a e = ap operator_token (same_Some _ a e)
binary_operator-token _ a e = absurd (none-some a e)

pub binary_operator-sound : (place : Cursor) (a : BinaryOperator)
    → of_next binary_operator place ≡ Some a
    → TakesToken (operator_token a) place (behind place)
binary_operator-sound place a e =
    let h = of_next-sound binary_operator place a e in
    subst (λ (k : TokenKind). TakesToken k place (behind place)) (binary_operator-token h.0 a h.1) h.2

declaration_keyword-token : (kind : TokenKind) (a : DeclKeyword)
    → declaration_keyword kind ≡ Some a
    → kind ≡ keyword_token a
declaration_keyword-token ConstKeyword a e = ap keyword_token (same_Some _ a e)
declaration_keyword-token VarKeyword a e = ap keyword_token (same_Some _ a e)
declaration_keyword-token TypeKeyword a e = ap keyword_token (same_Some _ a e)
declaration_keyword-token _ a e = absurd (none-some a e)

pub declaration_keyword-sound : (place : Cursor) (a : DeclKeyword)
    → of_next declaration_keyword place ≡ Some a
    → TakesToken (keyword_token a) place (behind place)
declaration_keyword-sound place a e =
    let h = of_next-sound declaration_keyword place a e in
    subst (λ (k : TokenKind). TakesToken k place (behind place)) (declaration_keyword-token h.0 a h.1) h.2

-- an assignment with an operator
assigns : (o op : BinaryOperator) (from to : Cursor)
    → Some o ≡ Some op
    → assign_operator o from to
    → assign_operator op from to
assigns o op from to e h = subst (λ (op : BinaryOperator). assign_operator op from to) (same_Some o op e) h

assigning_operator-token : (kind : TokenKind) (op : BinaryOperator) (from to : Cursor)
    → assigning_operator kind ≡ Some op
    → TakesToken kind from to
    → assign_operator op from to
assigning_operator-token PlusAssign op from to e h = assigns _ op from to e h
assigning_operator-token MinusAssign op from to e h = assigns _ op from to e h
assigning_operator-token PipeAssign op from to e h = assigns _ op from to e h
assigning_operator-token CaretAssign op from to e h = assigns _ op from to e h
assigning_operator-token StarAssign op from to e h = assigns _ op from to e h
assigning_operator-token SlashAssign op from to e h = assigns _ op from to e h
assigning_operator-token PercentAssign op from to e h = assigns _ op from to e h
assigning_operator-token ShiftLeftAssign op from to e h = assigns _ op from to e h
assigning_operator-token ShiftRightAssign op from to e h = assigns _ op from to e h
assigning_operator-token AmpersandAssign op from to e h = assigns _ op from to e h
assigning_operator-token AndNotAssign op from to e h = assigns _ op from to e h
assigning_operator-token _ op from to e h = absurd (none-some op e)

pub assigning_operator-sound : (place : Cursor) (op : BinaryOperator)
    → of_next assigning_operator place ≡ Some op
    → assign_operator op place (behind place)
assigning_operator-sound place op e =
    let h = of_next-sound assigning_operator place op e in
    assigning_operator-token h.0 op place (behind place) h.1 h.2

-- the next token, of which a test says something
pub is_next-sound : (test : TokenKind → Bool) (place : Cursor)
    → is_next test place ≡ true
    → (kind : TokenKind) × (test kind ≡ true) × TakesToken kind place (behind place)
is_next-sound test place e = by_list place.end place.left e where
  by_list : (end : ℕ) (left : List Token)
      → first_is test left ≡ true
      → let place : Cursor = record { left = left; end = end } in
      (kind : TokenKind) × (test kind ≡ true) × TakesToken kind place (behind place)
  by_list end [] e = cc
  by_list end (t ∷ rest) e = (t.kind, e, record { start = t.start; taken = refl })

string_kind : (kind : TokenKind) (from to : Cursor)
    → is_string kind ≡ true
    → TakesToken kind from to
    → string_token from to
string_kind interpreted_string_token from to e h = inl h
string_kind raw_string_token from to e h = inr h
string_kind _ from to e h = cc

pub is_string-sound : (place : Cursor) → is_next is_string place ≡ true → string_token place (behind place)
is_string-sound place e =
    let h = is_next-sound is_string place e in
    string_kind h.0 place (behind place) h.1 h.2
