-- The reader gives each expression that is spelled. Operators of falling levels are read one after the other, each with
-- its right operand.
use Rattle.std.proofs.Common.{◌≡◌, ℕ, zero, suc, ◌≤◌, ◌<◌, Bool, true, false, true≢false, List, length, Option, Some, None, refl, sym, subst, ap, ◌∙◌, arith}
use Rattle.std.specs.Prelude.{◌||◌, nat_le}
use Rattle.lexer.specs.Spelling.{same_kind}
use Rattle.lexer.specs.declared.token.TokenKind.{TokenKind}
use Rattle.lexer.specs.declared.token.TokenKind.TheVariants.{Identifier as identifier_kind, Number as number_token, Rune as rune_token, InterpretedString as interpreted_string_token, RawString as raw_string_token, ChanKeyword, FuncKeyword, InterfaceKeyword, MapKeyword, StructKeyword, Star, LeftParenthesis, LeftBracket, LeftBrace, Dot}
use Rattle.tree.specs.declared.span.Span.{Span}
use Rattle.tree.specs.declared.operator.BinaryOperator.{BinaryOperator}
use Rattle.tree.specs.declared.operator.BinaryOperator.TheVariants.{LogicalOr}
use Rattle.tree.specs.declared.operator.UnaryOperator.{UnaryOperator}
use Rattle.tree.specs.declared.operator.UnaryOperator.TheVariants.{Plus, Negate, Not, Complement, Address, Receive, Tilde}
use Rattle.tree.specs.Syntax.{Expression, expression_node, name_expression, literal_value, star_expression, unary_expression, binary_expression}
use Rattle.tree.specs.Depth.{expression_depth, below_expression}
use Rattle.meaning.specs.Cursor.{GoText, Cursor, TakesToken, is_next, start_at}
use Rattle.meaning.specs.OperatorTokens.{operator_token, unary_token}
use Rattle.meaning.specs.WellFormed.{operator_level, level, primary_level, unary_level, IsPrimary, has_bare_literal, has_bare_literal_form}
use Rattle.meaning.specs.Grammar.{as_expression, as_value, SpellsExpression, SpellsForm, as_constraint, CanOperate}
use Rattle.tree_reader.specs.Reading.{Read, ◌>>=◌, behind, steps, spanned}
use Rattle.tree_reader.specs.Reader.{Readers, unary_operator, binary_operator, of_next, go_on, read_unary, read_operator, read_operators, read_expression_of, read_value_of}
use Rattle.tree_reader.specs.Claims.{StandsIn, IsLooser, CannotGoOn, AreComplete}
use Rattle.tree_reader.proofs.Taken.{step, when_true, when_false, only_true, stands_gives, stands_other, behind_gives, next_gives, of_next_gives, stands_not, of_next_none, node_is}
use Rattle.tree_reader.proofs.Lengths.{token_shorter, expression_shorter}
use Rattle.tree_reader.proofs.Begins.{begins_primary, begins_expression, primary_begins, expression_begins, value_as_expression, is_literal_value, level_high, level_low, operator_low}
use Rattle.tree_reader.proofs.CompleteLists.{read_braced_elements-complete}
use Rattle.std.proofs.lemmas.Bool.{le-leb, lt-leb, leb-true}
use Rattle.std.specs.Prelude.{is_some}
use Rattle.tree_reader.proofs.CompletePrimaries.{read_primary-complete}

unary_of : (op : UnaryOperator) → CanOperate as_expression op → unary_operator (unary_token op) ≡ Some op
unary_of Plus h = refl
unary_of Negate h = refl
unary_of Not h = refl
unary_of Complement h = refl
unary_of Address h = refl
unary_of Receive h = refl
unary_of Tilde h = let p : as_expression ≡ as_constraint = h in cc

unary_no_star : (op : UnaryOperator) → same_kind (unary_token op) Star ≡ false
unfolding same_kind
unary_no_star Plus = refl
unary_no_star Negate = refl
unary_no_star Not = refl
unary_no_star Complement = refl
unary_no_star Address = refl
unary_no_star Receive = refl
unary_no_star Tilde = refl

primary_no_unary : (k : TokenKind) → begins_primary k ≡ true → unary_operator k ≡ None
primary_no_unary identifier_kind e = refl
primary_no_unary number_token e = refl
primary_no_unary rune_token e = refl
primary_no_unary interpreted_string_token e = refl
primary_no_unary raw_string_token e = refl
primary_no_unary LeftParenthesis e = refl
primary_no_unary LeftBracket e = refl
primary_no_unary MapKeyword e = refl
primary_no_unary ChanKeyword e = refl
primary_no_unary FuncKeyword e = refl
primary_no_unary StructKeyword e = refl
primary_no_unary InterfaceKeyword e = refl
primary_no_unary _ e = absurd (true≢false (sym e))

binary_of : (op : BinaryOperator) → binary_operator (operator_token op) ≡ Some op
binary_of LogicalOr = refl
binary_of _ = refl

-- the tokens of operators between two operands
abbrev is_operator_token : TokenKind → Bool
is_operator_token kind = is_some (binary_operator kind)

operator_is_one : (op : BinaryOperator) → is_operator_token (operator_token op) ≡ true
operator_is_one LogicalOr = refl
operator_is_one _ = refl

looser : (least most : ℕ) (o : Option BinaryOperator) → least ≤ most → IsLooser least o → IsLooser most o
looser least most None h l = tt
looser least most (Some op) h l = omega arith

always_looser : (least : ℕ) (o : Option BinaryOperator) → unary_level ≤ least → IsLooser least o
always_looser least None h = tt
always_looser least (Some op) h = omega (arith, operator_low op)

pub raised : (header : Bool) (least most : ℕ) (place : Cursor)
    → least ≤ most
    → CannotGoOn header least place
    → CannotGoOn header most place
raised header least most place h c = record {
  dot = c.dot;
  bracket = c.bracket;
  parenthesis = c.parenthesis;
  brace = c.brace;
  operator = looser least most (of_next binary_operator place) h c.operator;
}

pub at_unary : (header : Bool) (least : ℕ) (place : Cursor)
    → CannotGoOn header least place
    → CannotGoOn header unary_level place
at_unary header least place c = record {
  dot = c.dot;
  bracket = c.bracket;
  parenthesis = c.parenthesis;
  brace = c.brace;
  operator = always_looser unary_level (of_next binary_operator place) (omega arith);
}

-- an operand before an operator's token that binds no tighter
before_operator : (header : Bool) (least : ℕ) (op : BinaryOperator) (place to : Cursor)
    → TakesToken (operator_token op) place to
    → operator_level op < least
    → CannotGoOn header least place
before_operator header least op place to t h =
    let next : is_next is_operator_token place ≡ true = next_gives t is_operator_token ∙ operator_is_one op in
    record {
      dot = λ e. absurd (true≢false (sym e ∙ stands_not is_operator_token Dot place refl next));
      bracket = stands_not is_operator_token LeftBracket place refl next;
      parenthesis = stands_not is_operator_token LeftParenthesis place refl next;
      brace = λ e. stands_not is_operator_token LeftBrace place refl next;
      operator = subst (IsLooser least) (sym (of_next_gives t binary_operator ∙ binary_of op)) h;
    }

or_parts : (a b : Bool) → (a || b) ≡ false → (a ≡ false) × (b ≡ false)
or_parts true b h = absurd (true≢false h)
or_parts false b h = (refl, h)

left_stands : (header : Bool) (op : BinaryOperator) (l r : Expression) (span : Span)
    → StandsIn header (expression_node (binary_expression op l r) span)
    → StandsIn header l
unfolding has_bare_literal has_bare_literal_form
left_stands true op l r span h = let parts = or_parts (has_bare_literal l) (has_bare_literal r) h in parts.0
left_stands false op l r span h = tt

right_stands : (header : Bool) (op : BinaryOperator) (l r : Expression) (span : Span)
    → StandsIn header (expression_node (binary_expression op l r) span)
    → StandsIn header r
unfolding has_bare_literal has_bare_literal_form
right_stands true op l r span h = let parts = or_parts (has_bare_literal l) (has_bare_literal r) h in parts.1
right_stands false op l r span h = tt

module _ (text : GoText) (r : Readers) (below : ℕ) (complete : AreComplete text below r) where
  read_unary-primary : (header : Bool) (least : ℕ) (from to : Cursor) (e : Expression)
      → SpellsExpression text as_expression e from to
      → IsPrimary e
      → StandsIn header e
      → expression_depth e ≤ suc below
      → CannotGoOn header least to
      → read_unary text r below header from ≡ Some (e, to)
  unfolding read_unary
  read_unary-primary header least from to e s h stand d c =
      let begins : is_next begins_primary from ≡ true = primary_begins text e from to h s in
      let none : of_next unary_operator from ≡ None =
      of_next_none begins_primary unary_operator from primary_no_unary begins in
      when_false _ (stands_not begins_primary Star from refl begins)
      (rw none (read_primary-complete text r below complete header least from to e s h stand d c))

  read_unary-complete : (header : Bool) (least : ℕ) (from to : Cursor) (e : Expression)
      → SpellsExpression text as_expression e from to
      → unary_level ≤ level e
      → StandsIn header e
      → expression_depth e ≤ suc below
      → CannotGoOn header least to
      → read_unary text r below header from ≡ Some (e, to)
  unfolding read_unary SpellsExpression SpellsForm has_bare_literal has_bare_literal_form expression_depth
      below_expression
  read_unary-complete header least from to (expression_node (star_expression e) span) s h stand d c =
      let star = s.0.1.1 in
      when_true _ (stands_gives star)
      (step _ (ap (r.read_expression header unary_level) (behind_gives star)
      ∙ complete.expression header unary_level s.0.1.0 to e s.0.1.2 s.0.0 stand (omega arith)
      (at_unary header least to c)) (ap Some (node_is (star_expression e) span from to s.1 s.2)))
  read_unary-complete header least from to (expression_node (unary_expression op e) span) s h stand d c =
      let rule = s.0.1.1 in
      let found : of_next unary_operator from ≡ Some op = of_next_gives rule.1 unary_operator ∙ unary_of op s.0.0 in
      when_false _ (stands_other rule.1 Star (unary_no_star op))
      (rw found (step _ (ap (r.read_expression header unary_level) (behind_gives rule.1)
      ∙ complete.expression header unary_level rule.0 to e rule.2 s.0.1.0 stand (omega arith)
      (at_unary header least to c)) (ap Some (node_is (unary_expression op e) span from to s.1 s.2))))
  read_unary-complete header least from to (expression_node (binary_expression op left right) span) s h stand d c =
      absurd (omega (arith, operator_low op))
  read_unary-complete header least from to (expression_node (name_expression name) span) s h stand d c =
      read_unary-primary header least from to (expression_node (name_expression name) span) s refl stand d c
  read_unary-complete header least from to (expression_node form span) s h stand d c =
      read_unary-primary header least from to (expression_node form span) s refl stand d c

  abbrev read_from : Bool → ℕ → Cursor → Read Expression
  read_from header least place = do
    e ← read_unary text r below header place
    read_operators text r below header least place (steps e.1) e.0 e.1

  abbrev GoesOn : Bool → ℕ → Cursor → Expression → Cursor → Read Expression → Type 0
  GoesOn header least from e place wanted =
      (n : ℕ) → length place.left < n → read_operators text r below header least from n e place ≡ wanted

  next_operand : (header : Bool) (least : ℕ) (op : BinaryOperator) (left right : Expression) (span : Span)
      (from place middle to : Cursor) (wanted : Read Expression)
      → TakesToken (operator_token op) place middle
      → SpellsExpression text as_expression right middle to
      → least ≤ operator_level op
      → operator_level op < level right
      → StandsIn header right
      → expression_depth left ≤ below
      → expression_depth right ≤ below
      → CannotGoOn header (suc (operator_level op)) to
      → span.start ≡ start_at from
      → span.end ≡ to.end
      → GoesOn header least from (expression_node (binary_expression op left right) span) to wanted
      → GoesOn header least from left place wanted
  unfolding read_operators
  next_operand header least op left right span from place middle to _ t s low tight stand d k c p q more zero short =
      absurd (omega arith)
  next_operand header least op left right span from place middle to _ t s low tight stand d k c p q more (suc n) short =
      let found : of_next binary_operator place ≡ Some op = of_next_gives t binary_operator ∙ binary_of op in
      let grown : Read Expression =
      ◌>>=◌ {A = Expression × Cursor} {B = Expression × Cursor}
      (r.read_expression header (suc (operator_level op)) (behind place))
      (λ e. Some (spanned from (binary_expression op left e.0) e.1)) in
      let chosen_next : read_operator text r below header least from left place
      (of_next binary_operator place) ≡ Some grown =
      ap (read_operator text r below header least from left place) found
      ∙ when_true _ (le-leb least (operator_level op) low) refl in
      let read : grown ≡ Some (expression_node (binary_expression op left right) span, to) =
      step _ (ap (r.read_expression header (suc (operator_level op))) (behind_gives t) ∙ complete.expression header
      (suc (operator_level op)) middle to right s tight stand k c)
      (ap Some (node_is (binary_expression op left right) span from to p q)) in
      let shorter : length to.left < n =
      omega (
        arith,
        token_shorter
            (operator_token op) place middle t,
        expression_shorter text as_expression right middle to s,
      ) in
      ap (go_on text r below (read_operators text r below header least from n) left place) chosen_next ∙ step _
      (only_true (le-leb (expression_depth left) below d) read) (more n shorter)

  unary_first : (header : Bool) (least : ℕ) (e : Expression) (from to : Cursor) (wanted : Read Expression)
      → read_unary text r below header from ≡ Some (e, to)
      → GoesOn header least from e to wanted
      → read_from header least from ≡ wanted
  unary_first header least e from to wanted read more = step _ read (more (steps to) (omega arith))

  operators_arrive : (header : Bool) (least : ℕ) (e : Expression) (from to : Cursor) (wanted : Read Expression)
      → SpellsExpression text as_expression e from to
      → least ≤ level e
      → StandsIn header e
      → expression_depth e ≤ suc below
      → CannotGoOn header (suc (level e)) to
      → GoesOn header least from e to wanted
      → read_from header least from ≡ wanted
  unfolding SpellsExpression SpellsForm expression_depth below_expression
  operators_arrive header least (expression_node (binary_expression op left right) span) from to goal s low fits d c k =
      let rule = s.0.1.1 in
      let nested = s.0.1.0 in
      let follows : CannotGoOn header (suc (level left)) rule.0 =
      before_operator header (suc (level left)) op rule.0 rule.2.0 rule.2.1 (omega (arith, nested.0)) in
      operators_arrive header least left from rule.0 goal rule.1 (omega (arith, nested.0))
      (left_stands header op left right span fits) (omega arith) follows
      (next_operand header least op left right span from rule.0 rule.2.0 to goal rule.2.1 rule.2.2 low nested.1
      (right_stands header op left right span fits) (omega arith) (omega arith) c s.1 s.2 k)
  operators_arrive header least (expression_node (name_expression name) span) from to wanted s low stand d c more =
      unary_first header least (expression_node (name_expression name) span) from to wanted
      (read_unary-complete header 8 from to (expression_node (name_expression name) span) s (omega arith) stand d c)
      more
  operators_arrive header least (expression_node form span) from to wanted s low stand d c more =
      unary_first header least (expression_node form span) from to wanted
      (read_unary-complete header _ from to (expression_node form span) s (omega arith) stand d c) more

  no_operator : (header : Bool) (least : ℕ) (from : Cursor) (e : Expression) (to : Cursor) (o : Option BinaryOperator)
      → IsLooser least o
      → read_operator text r below header least from e to o ≡ None
  no_operator header least from e to None h = refl
  no_operator header least from e to (Some op) h = when_false _ (lt-leb least (operator_level op) h) refl

  read_from-complete : (header : Bool) (least : ℕ) (from to : Cursor) (e : Expression)
      → SpellsExpression text as_expression e from to
      → least ≤ level e
      → StandsIn header e
      → expression_depth e ≤ suc below
      → CannotGoOn header least to
      → read_from header least from ≡ Some (e, to)
  unfolding read_operators
  read_from-complete header least from to e s low stand d c =
      operators_arrive header least e from to (Some (e, to)) s low stand d
      (raised header least (suc (level e)) to (omega arith) c) stops
    where
      stops : (n : ℕ) → length to.left < n → read_operators text r below header least from n e to ≡ Some (e, to)
      stops zero short = absurd (omega arith)
      stops (suc n) short =
          ap (go_on text r below (read_operators text r below header least from n) e to)
          (no_operator header least from e to (of_next binary_operator to) c.operator)

  by_level : (header : Bool) (least : ℕ) (from to : Cursor) (e : Expression)
      → SpellsExpression text as_expression e from to
      → least ≤ level e
      → StandsIn header e
      → expression_depth e ≤ suc below
      → CannotGoOn header least to
      → (primary unary : Bool)
      → nat_le primary_level least ≡ primary
      → nat_le unary_level least ≡ unary
      → read_expression_of text r below header least from ≡ Some (e, to)
  unfolding read_expression_of
  by_level header least from to e s low stand d c true unary p u =
      let high : primary_level ≤ least = leb-true primary_level least p in
      let is_primary : IsPrimary e = omega (arith, level_low e) in
      when_true _ p (read_primary-complete text r below complete header least from to e s is_primary stand d c)
  by_level header least from to e s low stand d c false true p u =
      let high : unary_level ≤ least = leb-true unary_level least u in
      when_false _ p (when_true _ u (read_unary-complete header least from to e s (omega arith) stand d c))
  by_level header least from to e s low stand d c false false p u =
      when_false _ p (when_false _ u (read_from-complete header least from to e s low stand d c))

  pub read_expression_of-complete : (header : Bool) (least : ℕ) (from to : Cursor) (e : Expression)
      → SpellsExpression text as_expression e from to
      → least ≤ level e
      → StandsIn header e
      → expression_depth e ≤ suc below
      → CannotGoOn header least to
      → read_expression_of text r below header least from ≡ Some (e, to)
  read_expression_of-complete header least from to e s low stand d c =
      by_level header least from to e s low stand d c (nat_le primary_level least) (nat_le unary_level least) refl refl

  value_by : (e : Expression) (b : Bool)
      → is_literal_value e ≡ b
      → (from to : Cursor)
      → SpellsExpression text as_value e from to
      → expression_depth e ≤ suc below
      → CannotGoOn false 1 to
      → read_value_of text r below from ≡ Some (e, to)
  unfolding read_value_of SpellsExpression SpellsForm expression_depth below_expression
  value_by (expression_node (literal_value es) span) true b from to s d c =
      when_true _ (stands_gives s.0.1.1)
      (step _ (read_braced_elements-complete text r below complete es from to s.0.1 (omega arith))
      (ap Some (node_is (literal_value es) span from to s.1 s.2)))
  value_by (expression_node _ span) true b from to s d c = absurd (true≢false (sym b))
  value_by e false b from to s d c =
      let spelled : SpellsExpression text as_expression e from to = value_as_expression text e from to b s in
      when_false _ (stands_not begins_expression LeftBrace from refl (expression_begins text e from to spelled))
      (read_expression_of-complete false 1 from to e spelled (level_high e) tt d c)

  pub read_value_of-complete : (from to : Cursor) (e : Expression)
      → SpellsExpression text as_value e from to
      → expression_depth e ≤ suc below
      → CannotGoOn false 1 to
      → read_value_of text r below from ≡ Some (e, to)
  read_value_of-complete from to e s d c = value_by e (is_literal_value e) refl from to s d c
