-- The reader gives each simple statement that the tokens spell.
use Rattle.std.proofs.Common.{◌≡◌, ℕ, ◌≤◌, Bool, true, false, List, [], ◌∷◌, Some, None, refl, sym, ap, ◌∙◌, subst, arith}
use Rattle.std.specs.Prelude.{◌&&◌}
use Rattle.lexer.specs.Spelling.{same_kind}
use Rattle.lexer.specs.declared.token.TokenKind.{TokenKind}
use Rattle.lexer.specs.declared.token.TokenKind.TheVariants.{RangeKeyword, Plus as plus_token, Minus, Star, Slash, Percent, Ampersand, Pipe, Caret, ShiftLeft as shift_left_token, ShiftRight as shift_right_token, AndNot as and_not_token, PlusAssign, MinusAssign, StarAssign, SlashAssign, PercentAssign, AmpersandAssign, PipeAssign, CaretAssign, ShiftLeftAssign, ShiftRightAssign, AndNotAssign, LogicalAnd as logical_and_token, LogicalOr as logical_or_token, Arrow, Increment, Decrement, EqualEqual, LessThan, GreaterThan, Assign, NotEqual as not_equal_token, LessOrEqual as less_or_equal_token, GreaterOrEqual as greater_or_equal_token, Define, LeftParenthesis, RightParenthesis, LeftBracket, LeftBrace, RightBrace, Comma, Semicolon, Dot, Colon}
use Rattle.tree.specs.declared.operator.BinaryOperator.{BinaryOperator}
use Rattle.tree.specs.declared.operator.BinaryOperator.TheVariants.{Add, Subtract, Or, Xor, Multiply, Divide, Remainder, ShiftLeft, ShiftRight, And, AndNot}
use Rattle.tree.specs.declared.span.Span.{Span}
use Rattle.tree.specs.Syntax.{Identifier, Expression, expression_node, name_expression, key_value, Expressions, no_expression, expression_and, Statement, statement_node, StatementForm, expression_statement, send_statement, increment_statement, decrement_statement, assignment, operator_assignment, define_statement}
use Rattle.tree.specs.Depth.{expression_depth, expressions_depth, below_statement}
use Rattle.meaning.specs.Cursor.{GoText, Cursor, TakesToken, is_next, start_at, identifier, identifiers, more_identifiers}
use Rattle.meaning.specs.OperatorTokens.{assign_operator}
use Rattle.meaning.specs.WellFormed.{has_bare_literal}
use Rattle.meaning.specs.Grammar.{as_element, as_expression, SpellsExpression, SpellsExpressions, SpellsMore, SpellsStatement, SpellsStatementForm, SpellsForm}
use Rattle.tree_reader.specs.Reading.{stands, behind, spanned_statement}
use Rattle.tree_reader.specs.Reader.{Readers, binary_operator, assigning_operator, as_identifiers, read_expressions, read_simple_after, read_simple}
use Rattle.tree_reader.specs.Claims.{StandsIn, IsLooser, CannotGoOn, AreComplete}
use Rattle.tree_reader.proofs.Taken.{step, when_true, when_false, behind_gives, next_gives, of_next_gives, stands_gives, stands_other, stands_not, of_next_none, span_is}
use Rattle.tree_reader.proofs.CompleteLists.{StandIn, read_expressions-complete}
use Rattle.tree_reader.proofs.Begins.{begins_expression, expression_begins, level_high}

-- the tokens that end an expression in a statement
abbrev pub stops : Bool → TokenKind → Bool
stops header Semicolon = true
stops header RightParenthesis = true
stops header RightBrace = true
stops header LeftBrace = header
stops header Colon = true
stops header Comma = true
stops header Define = true
stops header Assign = true
stops header Arrow = true
stops header Increment = true
stops header Decrement = true
stops header PlusAssign = true
stops header MinusAssign = true
stops header StarAssign = true
stops header SlashAssign = true
stops header PercentAssign = true
stops header AmpersandAssign = true
stops header PipeAssign = true
stops header CaretAssign = true
stops header ShiftLeftAssign = true
stops header ShiftRightAssign = true
stops header AndNotAssign = true
stops header _ = false

no_operator : (header : Bool) (k : TokenKind) → stops header k ≡ true → binary_operator k ≡ None
no_operator header logical_or_token e = cc
no_operator header logical_and_token e = cc
no_operator header EqualEqual e = cc
no_operator header not_equal_token e = cc
no_operator header LessThan e = cc
no_operator header less_or_equal_token e = cc
no_operator header GreaterThan e = cc
no_operator header greater_or_equal_token e = cc
no_operator header plus_token e = cc
no_operator header Minus e = cc
no_operator header Pipe e = cc
no_operator header Caret e = cc
no_operator header Star e = cc
no_operator header Slash e = cc
no_operator header Percent e = cc
no_operator header shift_left_token e = cc
no_operator header shift_right_token e = cc
no_operator header Ampersand e = cc
no_operator header and_not_token e = cc
no_operator header _ e = refl

pub cannot_go_on : (header : Bool) (least : ℕ) (place : Cursor) → is_next (stops header) place ≡ true → CannotGoOn header least place
cannot_go_on header least place e = record {
  dot = λ d. let none : stands Dot place ≡ false = stands_not (stops header) Dot place refl e in cc;
  bracket = stands_not (stops header) LeftBracket place refl e;
  parenthesis = stands_not (stops header) LeftParenthesis place refl e;
  brace = λ h. stands_not (stops header) LeftBrace place h e;
  operator = subst (IsLooser least) (sym (of_next_none (stops header) binary_operator place (no_operator header) e)) tt;
}

-- an expression before such a token
pub stops_at : (header : Bool) {kind : TokenKind} {from to : Cursor} → TakesToken kind from to → stops header kind ≡ true → CannotGoOn header 1 from
stops_at header {from = from} t e = cannot_go_on header 1 from (next_gives t (stops header) ∙ e)

-- the tokens that can follow a simple statement
abbrev pub follows_simple : TokenKind → Bool
follows_simple Semicolon = true
follows_simple RightParenthesis = true
follows_simple RightBrace = true
follows_simple LeftBrace = true
follows_simple Colon = true
follows_simple Dot = true
follows_simple _ = false

no_assignment : (k : TokenKind) → follows_simple k ≡ true → assigning_operator k ≡ None
no_assignment PlusAssign e = cc
no_assignment MinusAssign e = cc
no_assignment PipeAssign e = cc
no_assignment CaretAssign e = cc
no_assignment StarAssign e = cc
no_assignment SlashAssign e = cc
no_assignment PercentAssign e = cc
no_assignment ShiftLeftAssign e = cc
no_assignment ShiftRightAssign e = cc
no_assignment AmpersandAssign e = cc
no_assignment AndNotAssign e = cc
no_assignment _ e = refl

-- A simple statement ends here.
pub record Ends (header : Bool) (to : Cursor) : Type 0 where
  pub stop : CannotGoOn header 1 to
  pub next : is_next follows_simple to ≡ true

-- a simple statement that can stand where it is read
abbrev pub IsSimpleIn : Bool → StatementForm → Type 0
IsSimpleIn header (expression_statement e) = StandsIn header e
IsSimpleIn header (send_statement c v) = StandsIn header c × StandsIn header v
IsSimpleIn header (increment_statement e) = StandsIn header e
IsSimpleIn header (decrement_statement e) = StandsIn header e
IsSimpleIn header (assignment ls rs) = StandIn header ls × StandIn header rs
IsSimpleIn header (operator_assignment op l r) = StandsIn header l × StandsIn header r
IsSimpleIn header (define_statement ns rs) = StandIn header rs
IsSimpleIn header form = ⊥

one_stands : (header : Bool) (e : Expression) → StandsIn header e → StandIn header (expression_and e no_expression)
one_stands true e h = (h, tt)
one_stands false e h = tt

-- the token of an assignment with an operator
pub record Assigns (op : BinaryOperator) (from to : Cursor) : Type 0 where
  pub kind : TokenKind
  pub taken : TakesToken kind from to
  pub is : assigning_operator kind ≡ Some op
  pub stop : (header : Bool) → stops header kind ≡ true
  pub no_comma : same_kind kind Comma ≡ false
  pub no_define : same_kind kind Define ≡ false
  pub no_assign : same_kind kind Assign ≡ false
  pub no_colon : same_kind kind Colon ≡ false

pub assigns : (op : BinaryOperator) (from to : Cursor) → assign_operator op from to → Assigns op from to
unfolding same_kind
assigns Add from to t = record { kind = PlusAssign; taken = t; is = refl; stop = λ header. refl; no_comma = refl; no_define = refl; no_assign = refl; no_colon = refl }
assigns Subtract from to t = record { kind = MinusAssign; taken = t; is = refl; stop = λ header. refl; no_comma = refl; no_define = refl; no_assign = refl; no_colon = refl }
assigns Or from to t = record { kind = PipeAssign; taken = t; is = refl; stop = λ header. refl; no_comma = refl; no_define = refl; no_assign = refl; no_colon = refl }
assigns Xor from to t = record { kind = CaretAssign; taken = t; is = refl; stop = λ header. refl; no_comma = refl; no_define = refl; no_assign = refl; no_colon = refl }
assigns Multiply from to t = record { kind = StarAssign; taken = t; is = refl; stop = λ header. refl; no_comma = refl; no_define = refl; no_assign = refl; no_colon = refl }
assigns Divide from to t = record { kind = SlashAssign; taken = t; is = refl; stop = λ header. refl; no_comma = refl; no_define = refl; no_assign = refl; no_colon = refl }
assigns Remainder from to t = record { kind = PercentAssign; taken = t; is = refl; stop = λ header. refl; no_comma = refl; no_define = refl; no_assign = refl; no_colon = refl }
assigns ShiftLeft from to t = record { kind = ShiftLeftAssign; taken = t; is = refl; stop = λ header. refl; no_comma = refl; no_define = refl; no_assign = refl; no_colon = refl }
assigns ShiftRight from to t = record { kind = ShiftRightAssign; taken = t; is = refl; stop = λ header. refl; no_comma = refl; no_define = refl; no_assign = refl; no_colon = refl }
assigns And from to t = record { kind = AmpersandAssign; taken = t; is = refl; stop = λ header. refl; no_comma = refl; no_define = refl; no_assign = refl; no_colon = refl }
assigns AndNot from to t = record { kind = AndNotAssign; taken = t; is = refl; stop = λ header. refl; no_comma = refl; no_define = refl; no_assign = refl; no_colon = refl }
assigns _ from to t = absurd t

pub not_both : (place : Cursor) (first second : TokenKind) → stands first place ≡ false → (stands first place && stands second (behind place)) ≡ false
not_both place first second e = ap (λ b. b && stands second (behind place)) e

and_false : (b c : Bool) → c ≡ false → (b && c) ≡ false
and_false true c e = e
and_false false c e = refl

-- `range` is no expression.
no_range : (first : TokenKind) {kind : TokenKind} {place from : Cursor} → TakesToken kind place from → is_next begins_expression from ≡ true → (stands first place && stands RangeKeyword (behind place)) ≡ false
no_range first {place = place} {from = from} t e =
    and_false (stands first place) _ (ap (stands RangeKeyword) (behind_gives t) ∙ stands_not begins_expression RangeKeyword from refl e)

pub statement_is : (form : StatementForm) (span : Span) (from to : Cursor) → span.start ≡ start_at from → span.end ≡ to.end → spanned_statement from form to ≡ (statement_node form span, to)
statement_is form span from to p q = λ i. (statement_node form (span_is span from to p q i), to)

module _ (text : GoText) where
  pub expression_depth-least : (e : Expression) (from to : Cursor) → SpellsExpression text as_expression e from to → 1 ≤ expression_depth e
  unfolding SpellsExpression SpellsForm expression_depth
  expression_depth-least (expression_node (key_value k v) span) from to s = let no_element : as_expression ≡ as_element = s.0.0 in cc
  expression_depth-least (expression_node _ span) from to s = omega arith

  pub expressions_depth-least : (es : Expressions) (from to : Cursor) → SpellsExpressions text as_expression es from to → 1 ≤ expressions_depth es
  unfolding SpellsExpressions expressions_depth
  expressions_depth-least no_expression from to s = absurd s
  expressions_depth-least (expression_and e es) from to s = omega (arith, expression_depth-least e from s.0 s.1)

  pub expressions-begin : (es : Expressions) (from to : Cursor) → SpellsExpressions text as_expression es from to → is_next begins_expression from ≡ true
  unfolding SpellsExpressions
  expressions-begin no_expression from to s = absurd s
  expressions-begin (expression_and e es) from to s = (expression_begins text e from s.0 s.1)

  -- Names are expressions.
  pub record AreExpressions (rule : Expressions → Cursor → Cursor → Type 0) (header : Bool) (ns : List Identifier) (from to : Cursor) : Type 0 where
    pub es : Expressions
    pub spelled : rule es from to
    pub are : as_identifiers es ≡ Some ns
    pub stand : StandIn header es
    pub depth : expressions_depth es ≤ 1

  abbrev name : Identifier → Expression
  name n = expression_node (name_expression n.text) n.span

  none_stands : (header : Bool) → StandIn header no_expression
  none_stands true = tt
  none_stands false = tt

  both_stand : (header : Bool) (n : Identifier) (es : Expressions) → StandIn header es → StandIn header (expression_and (name n) es)
  unfolding has_bare_literal
  both_stand true n es h = (refl, h)
  both_stand false n es h = tt

  name-spelled : (n : Identifier) (from to : Cursor) → identifier text n from to → SpellsExpression text as_expression (name n) from to
  unfolding SpellsExpression SpellsForm
  name-spelled n from to s = ((to, s.0, refl), s.1, s.2)

  more_names : (header : Bool) (ns : List Identifier) (from to : Cursor) → more_identifiers text ns from to → AreExpressions (SpellsMore text as_expression) header ns from to
  unfolding SpellsMore expressions_depth
  more_names header [] from to s = record { es = no_expression; spelled = s; are = refl; stand = none_stands header; depth = omega arith }
  more_names header (n ∷ ns) from to s =
      let more = more_names header ns s.2.0 to s.2.2 in
      record {
        es = expression_and (name n) more.es;
        spelled = (s.0, s.1, (s.2.0, name-spelled n s.0 s.2.0 s.2.1, more.spelled));
        are = rw more.are refl;
        stand = both_stand header n more.es more.stand;
        depth = omega (arith, more.depth);
      }

  pub names : (header : Bool) (ns : List Identifier) (from to : Cursor) → identifiers text ns from to → AreExpressions (SpellsExpressions text as_expression) header ns from to
  unfolding SpellsExpressions expressions_depth
  names header [] from to s = absurd s
  names header (n ∷ ns) from to s =
      let more = more_names header ns s.0 to s.2 in
      record {
        es = expression_and (name n) more.es;
        spelled = (s.0, name-spelled n from s.0 s.1, more.spelled);
        are = rw more.are refl;
        stand = both_stand header n more.es more.stand;
        depth = omega (arith, more.depth);
      }

module _ (text : GoText) (r : Readers) (below : ℕ) (complete : AreComplete text below r) where
  -- How a simple statement is read: expressions, and what follows them.
  pub record ReadsSimple (header : Bool) (from : Cursor) (s : Statement) (to : Cursor) : Type 0 where
    pub es : Expressions
    pub place : Cursor
    pub first : read_expressions text r header from ≡ Some (es, place)
    pub after : read_simple_after text r below header from es place ≡ Some (s, to)
    pub no_definition : (stands Define place && stands RangeKeyword (behind place)) ≡ false
    pub no_assignment : (stands Assign place && stands RangeKeyword (behind place)) ≡ false

  -- one expression at the front
  one-complete : (header : Bool) (e : Expression) (from to : Cursor) → SpellsExpression text as_expression e from to → StandsIn header e → expression_depth e ≤ below → CannotGoOn header 1 to → stands Comma to ≡ false → read_expressions text r header from ≡ Some (expression_and e no_expression, to)
  unfolding SpellsExpressions SpellsMore expressions_depth
  one-complete header e from to s h d stop comma =
      read_expressions-complete text r below complete header (expression_and e no_expression) from to (to, s, refl) (one_stands header e h) (omega arith) stop comma

  -- what is read behind the expressions
  expression-simple : (header : Bool) (e : Expression) (span : Span) (from to : Cursor) → SpellsStatement text (statement_node (expression_statement e) span) from to → StandsIn header e → expression_depth e ≤ below → Ends header to → ReadsSimple header from (statement_node (expression_statement e) span) to
  unfolding SpellsStatement SpellsStatementForm read_simple_after
  expression-simple header e span from to s h d ends =
      let define : stands Define to ≡ false = stands_not follows_simple Define to refl ends.next in
      let assign : stands Assign to ≡ false = stands_not follows_simple Assign to refl ends.next in
      record {
        es = expression_and e no_expression;
        place = to;
        first = one-complete header e from to s.0 h d ends.stop (stands_not follows_simple Comma to refl ends.next);
        after = when_false _ define (when_false _ assign (rw (of_next_none follows_simple assigning_operator to no_assignment ends.next) (when_false _ (stands_not follows_simple Arrow to refl ends.next) (when_false _ (stands_not follows_simple Increment to refl ends.next) (when_false _ (stands_not follows_simple Decrement to refl ends.next) (ap Some (statement_is (expression_statement e) span from to s.1 s.2)))))));
        no_definition = not_both to Define RangeKeyword define;
        no_assignment = not_both to Assign RangeKeyword assign;
      }

  send-simple : (header : Bool) (c v : Expression) (span : Span) (from to : Cursor) → SpellsStatement text (statement_node (send_statement c v) span) from to → StandsIn header c → StandsIn header v → expression_depth c ≤ below → expression_depth v ≤ below → Ends header to → ReadsSimple header from (statement_node (send_statement c v) span) to
  unfolding SpellsStatement SpellsStatementForm read_simple_after same_kind
  send-simple header c v span from to s h k d f ends =
      let place : Cursor = s.0.0 in
      let arrow : TakesToken Arrow place s.0.2.0 = s.0.2.1 in
      let value = complete.expression header 1 s.0.2.0 to v s.0.2.2 (level_high v) k f ends.stop in
      record {
        es = expression_and c no_expression;
        place = place;
        first = one-complete header c from place s.0.1 h d (stops_at header arrow refl) (stands_other arrow Comma refl);
        after = when_false _ (stands_other arrow Define refl) (when_false _ (stands_other arrow Assign refl) (rw (of_next_gives arrow assigning_operator) (when_true _ (stands_gives arrow) (step _ (ap (r.read_expression header 1) (behind_gives arrow) ∙ value) (ap Some (statement_is (send_statement c v) span from to s.1 s.2))))));
        no_definition = not_both place Define RangeKeyword (stands_other arrow Define refl);
        no_assignment = not_both place Assign RangeKeyword (stands_other arrow Assign refl);
      }

  increment-simple : (header : Bool) (e : Expression) (span : Span) (from to : Cursor) → SpellsStatement text (statement_node (increment_statement e) span) from to → StandsIn header e → expression_depth e ≤ below → ReadsSimple header from (statement_node (increment_statement e) span) to
  unfolding SpellsStatement SpellsStatementForm read_simple_after same_kind
  increment-simple header e span from to s h d =
      let place : Cursor = s.0.0 in
      let sign : TakesToken Increment place to = s.0.2 in
      record {
        es = expression_and e no_expression;
        place = place;
        first = one-complete header e from place s.0.1 h d (stops_at header sign refl) (stands_other sign Comma refl);
        after = when_false _ (stands_other sign Define refl) (when_false _ (stands_other sign Assign refl) (rw (of_next_gives sign assigning_operator) (when_false _ (stands_other sign Arrow refl) (when_true _ (stands_gives sign) (ap (λ p. Some (spanned_statement from (increment_statement e) p)) (behind_gives sign) ∙ ap Some (statement_is (increment_statement e) span from to s.1 s.2))))));
        no_definition = not_both place Define RangeKeyword (stands_other sign Define refl);
        no_assignment = not_both place Assign RangeKeyword (stands_other sign Assign refl);
      }

  decrement-simple : (header : Bool) (e : Expression) (span : Span) (from to : Cursor) → SpellsStatement text (statement_node (decrement_statement e) span) from to → StandsIn header e → expression_depth e ≤ below → ReadsSimple header from (statement_node (decrement_statement e) span) to
  unfolding SpellsStatement SpellsStatementForm read_simple_after same_kind
  decrement-simple header e span from to s h d =
      let place : Cursor = s.0.0 in
      let sign : TakesToken Decrement place to = s.0.2 in
      record {
        es = expression_and e no_expression;
        place = place;
        first = one-complete header e from place s.0.1 h d (stops_at header sign refl) (stands_other sign Comma refl);
        after = when_false _ (stands_other sign Define refl) (when_false _ (stands_other sign Assign refl) (rw (of_next_gives sign assigning_operator) (when_false _ (stands_other sign Arrow refl) (when_false _ (stands_other sign Increment refl) (when_true _ (stands_gives sign) (ap (λ p. Some (spanned_statement from (decrement_statement e) p)) (behind_gives sign) ∙ ap Some (statement_is (decrement_statement e) span from to s.1 s.2)))))));
        no_definition = not_both place Define RangeKeyword (stands_other sign Define refl);
        no_assignment = not_both place Assign RangeKeyword (stands_other sign Assign refl);
      }

  assignment-simple : (header : Bool) (ls rs : Expressions) (span : Span) (from to : Cursor) → SpellsStatement text (statement_node (assignment ls rs) span) from to → StandIn header ls → StandIn header rs → expressions_depth ls ≤ below → expressions_depth rs ≤ below → Ends header to → ReadsSimple header from (statement_node (assignment ls rs) span) to
  unfolding SpellsStatement SpellsStatementForm read_simple_after same_kind
  assignment-simple header ls rs span from to s h k d f ends =
      let place : Cursor = s.0.0 in
      let sign : TakesToken Assign place s.0.2.0 = s.0.2.1 in
      let right = read_expressions-complete text r below complete header rs s.0.2.0 to s.0.2.2 k f ends.stop (stands_not follows_simple Comma to refl ends.next) in
      record {
        es = ls;
        place = place;
        first = read_expressions-complete text r below complete header ls from place s.0.1 h d (stops_at header sign refl) (stands_other sign Comma refl);
        after = when_false _ (stands_other sign Define refl) (when_true _ (stands_gives sign) (step _ (ap (read_expressions text r header) (behind_gives sign) ∙ right) (ap Some (statement_is (assignment ls rs) span from to s.1 s.2))));
        no_definition = not_both place Define RangeKeyword (stands_other sign Define refl);
        no_assignment = no_range Assign sign (expressions-begin text rs s.0.2.0 to s.0.2.2);
      }

  operator-simple : (header : Bool) (op : BinaryOperator) (a b : Expression) (span : Span) (from to : Cursor) → SpellsStatement text (statement_node (operator_assignment op a b) span) from to → StandsIn header a → StandsIn header b → expression_depth a ≤ below → expression_depth b ≤ below → Ends header to → ReadsSimple header from (statement_node (operator_assignment op a b) span) to
  unfolding SpellsStatement SpellsStatementForm read_simple_after
  operator-simple header op a b span from to s h k d f ends =
      let place : Cursor = s.0.0 in
      let sign = assigns op place s.0.2.0 s.0.2.1 in
      let right = complete.expression header 1 s.0.2.0 to b s.0.2.2 (level_high b) k f ends.stop in
      let define = stands_other sign.taken Define sign.no_define in
      let assign = stands_other sign.taken Assign sign.no_assign in
      record {
        es = expression_and a no_expression;
        place = place;
        first = one-complete header a from place s.0.1 h d (stops_at header sign.taken (sign.stop header)) (stands_other sign.taken Comma sign.no_comma);
        after = when_false _ define (when_false _ assign (rw (of_next_gives sign.taken assigning_operator ∙ sign.is) (step _ (ap (r.read_expression header 1) (behind_gives sign.taken) ∙ right) (ap Some (statement_is (operator_assignment op a b) span from to s.1 s.2)))));
        no_definition = not_both place Define RangeKeyword define;
        no_assignment = not_both place Assign RangeKeyword assign;
      }

  define-simple : (header : Bool) (ns : List Identifier) (rs : Expressions) (span : Span) (from to : Cursor) → SpellsStatement text (statement_node (define_statement ns rs) span) from to → StandIn header rs → expressions_depth rs ≤ below → Ends header to → ReadsSimple header from (statement_node (define_statement ns rs) span) to
  unfolding SpellsStatement SpellsStatementForm read_simple_after same_kind
  define-simple header ns rs span from to s k f ends =
      let place : Cursor = s.0.0 in
      let sign : TakesToken Define place s.0.2.0 = s.0.2.1 in
      let left = names text header ns from place s.0.1 in
      let right = read_expressions-complete text r below complete header rs s.0.2.0 to s.0.2.2 k f ends.stop (stands_not follows_simple Comma to refl ends.next) in
      let enough : expressions_depth left.es ≤ below = omega (arith, left.depth, expressions_depth-least text rs s.0.2.0 to s.0.2.2, f) in
      record {
        es = left.es;
        place = place;
        first = read_expressions-complete text r below complete header left.es from place left.spelled left.stand enough (stops_at header sign refl) (stands_other sign Comma refl);
        after = when_true _ (stands_gives sign) (step _ left.are (step _ (ap (read_expressions text r header) (behind_gives sign) ∙ right) (ap Some (statement_is (define_statement ns rs) span from to s.1 s.2))));
        no_definition = no_range Define sign (expressions-begin text rs s.0.2.0 to s.0.2.2);
        no_assignment = not_both place Assign RangeKeyword (stands_other sign Assign refl);
      }

  pub reads_simple : (header : Bool) (form : StatementForm) (span : Span) (from to : Cursor) → SpellsStatement text (statement_node form span) from to → IsSimpleIn header form → below_statement form ≤ below → Ends header to → ReadsSimple header from (statement_node form span) to
  unfolding below_statement
  reads_simple header (expression_statement e) span from to s h d ends = expression-simple header e span from to s h d ends
  reads_simple header (send_statement c v) span from to s h d ends =
      send-simple header c v span from to s h.0 h.1 (omega arith) (omega arith) ends
  reads_simple header (increment_statement e) span from to s h d ends = increment-simple header e span from to s h d
  reads_simple header (decrement_statement e) span from to s h d ends = decrement-simple header e span from to s h d
  reads_simple header (assignment ls rs) span from to s h d ends =
      assignment-simple header ls rs span from to s h.0 h.1 (omega arith) (omega arith) ends
  reads_simple header (operator_assignment op a b) span from to s h d ends =
      operator-simple header op a b span from to s h.0 h.1 (omega arith) (omega arith) ends
  reads_simple header (define_statement ns rs) span from to s h d ends = define-simple header ns rs span from to s h d ends
  reads_simple header _ span from to s h d ends = absurd h

  pub read_simple-complete : (header : Bool) (form : StatementForm) (span : Span) (from to : Cursor) → SpellsStatement text (statement_node form span) from to → IsSimpleIn header form → below_statement form ≤ below → Ends header to → read_simple text r below header from ≡ Some (statement_node form span, to)
  unfolding read_simple
  read_simple-complete header form span from to s h d ends =
      let reads = reads_simple header form span from to s h d ends in step _ reads.first reads.after
