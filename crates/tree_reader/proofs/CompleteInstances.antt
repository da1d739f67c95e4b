-- The reader gives what is spelled with brackets behind a name: an array or an instance, and constraints and type
-- parameters.
use Rattle.std.proofs.Common.{◌≡◌, ℕ, zero, suc, ◌≤◌, ◌<◌, Bool, true, false, true≢false, List, length, Option, Some, None, refl, sym, ap, subst, ◌∙◌, inl, inr, arith}
use Rattle.std.specs.Prelude.{if◌then◌else◌, not, ◌&&◌, ◌||◌, nat_le}
use Rattle.std.proofs.lemmas.Bool.{and_parts, le-leb}
use Rattle.lexer.specs.Spelling.{same_kind}
use Rattle.lexer.specs.declared.token.TokenKind.{TokenKind}
use Rattle.lexer.specs.declared.token.TokenKind.TheVariants.{Identifier as identifier_kind, RightParenthesis, LeftBracket, RightBracket, LeftParenthesis, LeftBrace, RightBrace, Comma, Semicolon, Dot, Pipe, Tilde as tilde_token}
use Rattle.tree.specs.declared.span.Span.{Span}
use Rattle.tree.specs.declared.operator.BinaryOperator.{BinaryOperator}
use Rattle.tree.specs.declared.operator.BinaryOperator.TheVariants.{LogicalOr, Or}
use Rattle.tree.specs.declared.operator.UnaryOperator.TheVariants.{Receive as receive_operator, Tilde}
use Rattle.tree.specs.declared.operator.ChanDirection.TheVariants.{Both, Send, Receive}
use Rattle.tree.specs.Syntax.{Identifier, Expression, expression_node, name_expression, key_value, parenthesized, selector_expression, star_expression, ellipsis_array_type, slice_type, map_type, function_type, struct_type, interface_type, index_expression, instance_expression, unary_expression, binary_expression, array_type, channel_type, Parameters, no_parameter, named_and, unnamed_and, name_alone_and}
use Rattle.tree.specs.Depth.{expression_depth, below_expression, expressions_depth, parameters_depth}
use Rattle.meaning.specs.Cursor.{GoText, Cursor, TakesToken, Rule, ◌⨾◌, token, optional, word, identifier, is_next, start_at}
use Rattle.meaning.specs.OperatorTokens.{can_begin_type}
use Rattle.meaning.specs.WellFormed.{level, operator_level, unary_level, is_instance, is_type, is_type_form, names_type, is_term, is_constraint, is_constraint_form, end_constrained, are_types}
use Rattle.meaning.specs.Grammar.{as_type, as_expression, as_element, as_constraint, IsSecond, in_brackets, SpellsExpression, SpellsForm, SpellsTypeParameters}
use Rattle.tree_reader.specs.Reading.{Read, ◌>>=◌, only_where, stands, behind, steps, spanned, span_between, word_between, read_identifier}
use Rattle.tree_reader.specs.Reader.{Readers, indexed, joins_terms, behind_name, is_no_name, of_next, binary_operator, within, name_at, read_index, read_indexed, read_term, read_terms, read_constraint, read_type_parameter, read_type_items, read_type_parameters}
use Rattle.tree_reader.specs.Claims.{IsLooser, CannotGoOn, AreComplete}
use Rattle.tree_reader.proofs.Taken.{step, when_true, when_false, only_true, and_true, and_false, and_not, or_left, or_right, take_gives, stands_gives, stands_other, behind_gives, next_gives, stands_not, next_implied, span_is, node_is, read_identifier-complete}
use Rattle.tree_reader.proofs.Lengths.{token_shorter, expression_shorter, identifier_shorter}
use Rattle.tree_reader.proofs.Begins.{operator_low, begins_expression, expression_begins, type_begins}
use Rattle.tree_reader.proofs.CompleteLists.{ends_expression}
use Rattle.tree_reader.proofs.CompleteIndexes.{read_index-complete, read_instance-complete}

-- what follows a term of a constraint
abbrev pub ends_term : TokenKind → Bool
ends_term Pipe = true
ends_term kind = ends_expression kind

end_of_expression : (k : TokenKind) → (not (ends_expression k) || ends_term k) ≡ true
end_of_expression identifier_kind = refl
end_of_expression _ = refl

pub end_is_term : (place : Cursor) → is_next ends_expression place ≡ true → is_next ends_term place ≡ true
end_is_term place h = next_implied ends_expression ends_term place end_of_expression h

always_looser : (o : Option BinaryOperator) → IsLooser unary_level o
always_looser None = tt
always_looser (Some op) = omega (arith, operator_low op)

-- no expression as tight as a term goes on there
ended_term : (place : Cursor) → is_next ends_term place ≡ true → CannotGoOn false unary_level place
ended_term place h = record {
  dot = λ e. absurd (true≢false (sym e ∙ stands_not ends_term Dot place refl h));
  bracket = stands_not ends_term LeftBracket place refl h;
  parenthesis = stands_not ends_term LeftParenthesis place refl h;
  brace = λ e. stands_not ends_term LeftBrace place refl h;
  operator = always_looser (of_next binary_operator place);
}

-- what is written as a type holds together as tight as an operand
pub type_tight : (e : Expression) → is_type e ≡ true → unary_level ≤ level e
unfolding is_type
type_tight (expression_node (binary_expression op l r) span) h = absurd (true≢false (sym h))
type_tight (expression_node (name_expression name) span) h = omega arith
type_tight (expression_node _ span) h = omega arith

module _ (text : GoText) where
  -- a type among the terms of a constraint stands there as an expression
  pub type_as_expression : (e : Expression) (from to : Cursor)
      → is_type e ≡ true
      → SpellsExpression text as_constraint e from to
      → SpellsExpression text as_expression e from to
  unfolding SpellsExpression SpellsForm is_type
  type_as_expression (expression_node (binary_expression op l r) span) from to h s = absurd (true≢false (sym h))
  type_as_expression (expression_node (unary_expression Tilde e) span) from to h s = absurd (true≢false (sym h))
  type_as_expression (expression_node (key_value k v) span) from to h s = absurd (true≢false (sym h))
  type_as_expression (expression_node (channel_type Both t) span) from to h s = s
  type_as_expression (expression_node (channel_type Send t) span) from to h s = s
  type_as_expression (expression_node (channel_type Receive t) span) from to h s = s
  type_as_expression (expression_node (name_expression name) span) from to h s = s
  type_as_expression (expression_node _ span) from to h s = s

  abbrev calls : Cursor → Bool
  calls place = stands identifier_kind place && stands LeftParenthesis (behind place)

  -- a constraint that begins with no name
  unnamed_begins : (from : Cursor) → stands identifier_kind from ≡ false → (calls from ≡ false) × (is_no_name from ≡ true)
  unnamed_begins from h = (and_false _ h, or_left _ (ap not h))

  -- a constraint that begins with a name is no call, and goes on behind the name where more than that stands
  named_begins : (e : Expression) (from place : Cursor)
      → names_type e ≡ true
      → SpellsExpression text as_expression e from place
      → stands LeftParenthesis place ≡ false
      → stands Dot place ≡ false
      → is_next joins_terms place ≡ true
      → (calls from ≡ false) × (is_no_name from ≡ true)
  unfolding SpellsExpression SpellsForm same_kind
  named_begins (expression_node (name_expression name) span) from place h s call dot joins =
      let end : behind from ≡ place = behind_gives s.0.1.0 ∙ s.0.2 in (
        and_not _ (ap (stands LeftParenthesis) end ∙ call),
        or_right _ (ap (is_next joins_terms) (when_false _ (ap (stands Dot) end ∙ dot) end) ∙ joins),
      )
  named_begins (expression_node (selector_expression (expression_node (name_expression name) at) n) span) from place h s call dot joins =
      let e = s.0.1.1 in
      let point = s.0.1.2.1 in
      let middle : behind from ≡ s.0.1.0 = behind_gives e.0.1.0 ∙ e.0.2 in
      let end : behind (behind (behind from)) ≡ place =
      ap (λ c. behind (behind c)) middle ∙ (ap behind (behind_gives point) ∙ (behind_gives s.0.1.2.2.1.0.0 ∙ s.0.1.2.2.2)) in (
        and_not _ (ap (stands LeftParenthesis) middle ∙ stands_other point LeftParenthesis refl),
        or_right _ (ap (is_next joins_terms) (when_true _ (ap (stands Dot) middle ∙ stands_gives point) end) ∙ joins),
      )
  named_begins (expression_node (selector_expression (expression_node _ at) n) span) from place h s call dot joins =
      absurd (true≢false (sym h))
  named_begins (expression_node _ span) from place h s call dot joins = absurd (true≢false (sym h))

  -- a term before `|`, or one that is more than a name
  type_begins_so : (e : Expression) (from to : Cursor)
      → is_type e ≡ true
      → SpellsExpression text as_constraint e from to
      → (names_type e ≡ true → is_next joins_terms to ≡ true)
      → (calls from ≡ false) × (is_no_name from ≡ true)
  unfolding SpellsExpression SpellsForm is_type same_kind
  type_begins_so (expression_node (name_expression name) span) from to h s joins =
      let j = joins refl in
      named_begins (expression_node (name_expression name) span) from to refl s
      (stands_not joins_terms LeftParenthesis to refl j) (stands_not joins_terms Dot to refl j) j
  type_begins_so (expression_node (selector_expression e n) span) from to h s joins =
      let j = joins h in
      named_begins (expression_node (selector_expression e n) span) from to h s
      (stands_not joins_terms LeftParenthesis to refl j) (stands_not joins_terms Dot to refl j) j
  type_begins_so (expression_node (index_expression e i) span) from to h s joins =
      let rule = s.0.1.1 in
      named_begins e from rule.0 (and_parts (names_type e) (is_type i) h).0 rule.1
      (stands_other rule.2.1 LeftParenthesis refl) (stands_other rule.2.1 Dot refl) (next_gives rule.2.1 joins_terms)
  type_begins_so (expression_node (instance_expression e es) span) from to h s joins =
      let rule = s.0.1.1.1 in
      named_begins e from rule.0 (and_parts (names_type e) (are_types es) h).0 rule.1
      (stands_other rule.2.1 LeftParenthesis refl) (stands_other rule.2.1 Dot refl) (next_gives rule.2.1 joins_terms)
  type_begins_so (expression_node (parenthesized e) span) from to h s joins =
      unnamed_begins from (stands_other s.0.1 identifier_kind refl)
  type_begins_so (expression_node (star_expression e) span) from to h s joins =
      unnamed_begins from (stands_other s.0.1.1 identifier_kind refl)
  type_begins_so (expression_node (unary_expression receive_operator e) span) from to h s joins =
      unnamed_begins from (stands_other s.0.1.1.1 identifier_kind refl)
  type_begins_so (expression_node (array_type n t) span) from to h s joins =
      unnamed_begins from (stands_other s.0.1.1 identifier_kind refl)
  type_begins_so (expression_node (ellipsis_array_type t) span) from to h s joins =
      unnamed_begins from (stands_other s.0.1.1 identifier_kind refl)
  type_begins_so (expression_node (slice_type t) span) from to h s joins =
      unnamed_begins from (stands_other s.0.1.1 identifier_kind refl)
  type_begins_so (expression_node (map_type k t) span) from to h s joins =
      unnamed_begins from (stands_other s.0.1 identifier_kind refl)
  type_begins_so (expression_node (channel_type Both t) span) from to h s joins =
      unnamed_begins from (stands_other s.0.1.1 identifier_kind refl)
  type_begins_so (expression_node (channel_type Send t) span) from to h s joins =
      unnamed_begins from (stands_other s.0.1.1 identifier_kind refl)
  type_begins_so (expression_node (channel_type Receive t) span) from to h s joins = absurd s.0.1
  type_begins_so (expression_node (function_type signature) span) from to h s joins =
      unnamed_begins from (stands_other s.0.1 identifier_kind refl)
  type_begins_so (expression_node (struct_type fs) span) from to h s joins =
      unnamed_begins from (stands_other s.0.1 identifier_kind refl)
  type_begins_so (expression_node (interface_type fs) span) from to h s joins =
      unnamed_begins from (stands_other s.0.1 identifier_kind refl)
  type_begins_so (expression_node _ span) from to h s joins = absurd (true≢false (sym h))

  pub constraint_begins : (c : Expression) (from to : Cursor)
      → is_constraint c ≡ true
      → SpellsExpression text as_constraint c from to
      → (names_type c ≡ true → is_next joins_terms to ≡ true)
      → is_next ends_term to ≡ true
      → (calls from ≡ false) × (is_no_name from ≡ true)
  unfolding SpellsExpression SpellsForm is_constraint is_type is_type_form same_kind
  constraint_begins (expression_node (binary_expression Or l r) span) from to h s joins ends =
      let rule = s.0.1.1 in
      constraint_begins l from rule.0 (and_parts (is_constraint l) (is_term r) h).0 rule.1
      (λ names. next_gives rule.2.1 joins_terms) (next_gives rule.2.1 ends_term)
  constraint_begins (expression_node (unary_expression Tilde e) span) from to h s joins ends =
      unnamed_begins from (stands_other s.0.1.1.1 identifier_kind refl)
  constraint_begins (expression_node (name_expression name) span) from to h s joins ends =
      type_begins_so (expression_node (name_expression name) span) from to h s joins
  constraint_begins (expression_node form span) from to h s joins ends =
      type_begins_so (expression_node form span) from to h s joins

  -- no closing brace begins a constraint
  pub constraint_no_brace : (c : Expression) (from to : Cursor)
      → is_constraint c ≡ true
      → SpellsExpression text as_constraint c from to
      → stands RightBrace from ≡ false
  unfolding SpellsExpression SpellsForm is_constraint is_type same_kind
  constraint_no_brace (expression_node (binary_expression Or l e) span) from to h s =
      constraint_no_brace l from s.0.1.1.0 (and_parts (is_constraint l) (is_term e) h).0 s.0.1.1.1
  constraint_no_brace (expression_node (unary_expression Tilde e) span) from to h s =
      stands_other s.0.1.1.1 RightBrace refl
  constraint_no_brace (expression_node (name_expression name) span) from to h s = stands_other s.0.1.0 RightBrace refl
  constraint_no_brace (expression_node form span) from to h s =
      stands_not begins_expression RightBrace from refl
      (expression_begins text (expression_node form span) from to
      (type_as_expression (expression_node form span) from to h s))

  -- the name where an expression begins, as it is read
  pub name_found : (name : List ℕ) (span : Span) (from to : Cursor)
      → word text name from to
      → span.start ≡ start_at from
      → span.end ≡ to.end
      → spanned from (name_expression (word_between text from (behind from))) (behind from)
      ≡ (expression_node (name_expression name) span, to)
  name_found name span from to s p q =
      ap (λ (c : Cursor). spanned from (name_expression (word_between text from c)) c) (behind_gives s.0)
      ∙ (λ i. (expression_node (name_expression (sym s.1 i)) (span_is span from to p q i), to))

  module _ (r : Readers) (below : ℕ) (complete : AreComplete text below r) where
    pub fits_within : (e : Expression) → expression_depth e ≤ below → nat_le (expression_depth e) r.most ≡ true
    fits_within e d =
        le-leb (expression_depth e) r.most (subst (λ (m : ℕ). expression_depth e ≤ m) (sym complete.most) d)

    -- a name and the type of an array
    pub read_indexed-array : (n : Identifier) (m t : Expression) (span : Span) (from middle to : Cursor)
        → identifier text n from middle
        → SpellsExpression text as_type (expression_node (array_type m t) span) middle to
        → expression_depth (expression_node (array_type m t) span) ≤ below
        → read_indexed text r from ≡ Some ((Some n, expression_node (array_type m t) span), to)
    unfolding read_indexed SpellsExpression SpellsForm expression_depth below_expression
    read_indexed-array n m t span from middle to name s d =
        let close : Cursor = s.0.0 in
        let element : SpellsExpression text as_type t close to =
        subst (λ (c : Cursor). SpellsExpression text as_type t close c) s.0.2.2 s.0.2.1 in
        let e = expression_node (name_expression n.text) n.span in
        let found = name_found n.text n.span from middle name.0 name.1 name.2 in
        let at : span_between (behind from) to ≡ span =
        ap (λ (c : Cursor). span_between c to) (behind_gives name.0.0) ∙ span_is span middle to s.1 s.2 in
        let array = expression_node (array_type m t) (span_between (behind from) to) in
        let index = expression_node (index_expression e m) (span_between from close) in
        let fit : within text r (array, to) ≡ Some (array, to) = only_true (fits_within array d) refl in
        step _ (ap (λ (x : Expression × Cursor). read_index text r from x.0 x.1) found
        ∙ read_index-complete text r below complete e m (span_between from close) from middle close s.0.1
        (omega arith) refl refl)
        (when_true _ (type_begins text t close to element)
        (step _ (complete.type close to t element (omega arith))
        (step _ fit
        (ap (λ (x : Span). Some ((Some n, expression_node (array_type m t) x), to)) at))))

    -- an instance of a name alone, with one argument or with several
    pub read_indexed-index : (name : List ℕ) (i : Expression) (at span : Span) (from to : Cursor)
        → let t = expression_node (index_expression (expression_node (name_expression name) at) i) span in
        SpellsExpression text as_type t from to
        → is_next can_begin_type to ≡ false
        → expression_depth t ≤ below
        → read_indexed text r from ≡ Some ((None, t), to)
    unfolding read_indexed SpellsExpression SpellsForm expression_depth below_expression is_type
    read_indexed-index name i at span from to s none d =
        let e = expression_node (name_expression name) at in
        let t = expression_node (index_expression e i) span in
        let rule = s.0.1.1 in
        let spelled : word text name from rule.0 = subst (λ (c : Cursor). word text name from c) rule.1.0.2 rule.1.0.1 in
        let found = name_found name at from rule.0 spelled rule.1.1 rule.1.2 in
        let fit : within text r (t, to) ≡ Some (t, to) = only_true (fits_within t d) refl in
        step _ (ap (λ (x : Expression × Cursor). read_index text r from x.0 x.1) found
        ∙ read_index-complete text r below complete e i span from rule.0 to rule.2 (omega arith) s.1 s.2)
        (when_false _ none
        (step _ fit (only_true s.0.0.2 refl)))

    pub read_indexed-instance : (name : List ℕ) (es : _) (at span : Span) (from to : Cursor)
        → let t = expression_node (instance_expression (expression_node (name_expression name) at) es) span in
        SpellsExpression text as_type t from to
        → is_next can_begin_type to ≡ false
        → expression_depth t ≤ below
        → read_indexed text r from ≡ Some ((None, t), to)
    unfolding read_indexed SpellsExpression SpellsForm expression_depth below_expression is_type
    read_indexed-instance name es at span from to s none d =
        let e = expression_node (name_expression name) at in
        let t = expression_node (instance_expression e es) span in
        let rule = s.0.1.1.1 in
        let spelled : word text name from rule.0 = subst (λ (c : Cursor). word text name from c) rule.1.0.2 rule.1.0.1 in
        let found = name_found name at from rule.0 spelled rule.1.1 rule.1.2 in
        let fit : within text r (t, to) ≡ Some (t, to) = only_true (fits_within t d) refl in
        step _ (ap (λ (x : Expression × Cursor). read_index text r from x.0 x.1) found
        ∙ read_instance-complete text r below complete e es span from rule.0 to s.0.0 rule.2 (omega arith) s.1 s.2)
        (when_false _ none
        (step _ fit (only_true s.0.1.0.2 refl)))

    read_term-type : (e : Expression) (from to : Cursor)
        → is_type e ≡ true
        → SpellsExpression text as_constraint e from to
        → expression_depth e ≤ below
        → is_next ends_term to ≡ true
        → read_term text r from ≡ Some (e, to)
    unfolding read_term
    read_term-type e from to h s d ends =
        let spelled : SpellsExpression text as_expression e from to = type_as_expression e from to h s in
        when_false _ (stands_not begins_expression tilde_token from refl (expression_begins text e from to spelled))
        (complete.expression false unary_level from to e spelled (type_tight e h) tt d (ended_term to ends))

    read_term-complete : (e : Expression) (from to : Cursor)
        → is_term e ≡ true
        → SpellsExpression text as_constraint e from to
        → expression_depth e ≤ below
        → is_next ends_term to ≡ true
        → read_term text r from ≡ Some (e, to)
    unfolding read_term SpellsExpression SpellsForm expression_depth below_expression is_type
    read_term-complete (expression_node (unary_expression Tilde e) span) from to h s d ends =
        let rule = s.0.1.1 in
        when_true _ (stands_gives rule.1)
        (step _ (ap (r.read_expression false unary_level) (behind_gives rule.1)
        ∙ complete.expression false unary_level rule.0 to e rule.2 s.0.1.0 tt (omega arith) (ended_term to ends))
        (ap Some (node_is (unary_expression Tilde e) span from to s.1 s.2)))
    read_term-complete (expression_node (name_expression name) span) from to h s d ends =
        read_term-type (expression_node (name_expression name) span) from to h s d ends
    read_term-complete (expression_node form span) from to h s d ends =
        read_term-type (expression_node form span) from to h s d ends

    -- what is done with a constraint that was read
    abbrev checked : Expression × Cursor → Read Expression
    checked c = only_where (is_constraint c.0) (within text r c)

    abbrev TermsGoOn : Cursor → Expression → Cursor → Read Expression → Type 0
    TermsGoOn from e place wanted =
        (n : ℕ) → length place.left < n → (read_terms text r from n e place >>= checked) ≡ wanted

    one_term : (e : Expression) (from to : Cursor) (wanted : Read Expression)
        → read_term text r from ≡ Some (e, to)
        → TermsGoOn from e to wanted
        → read_constraint text r from ≡ wanted
    unfolding read_constraint
    one_term e from to wanted read more = step _ read (more (steps to) (omega arith))

    next_term : (l e : Expression) (span : Span) (from place middle to : Cursor) (wanted : Read Expression)
        → TakesToken Pipe place middle
        → SpellsExpression text as_constraint e middle to
        → read_term text r middle ≡ Some (e, to)
        → span.start ≡ start_at from
        → span.end ≡ to.end
        → TermsGoOn from (expression_node (binary_expression Or l e) span) to wanted
        → TermsGoOn from l place wanted
    unfolding read_terms
    next_term l e span from place middle to wanted pipe s read p q more zero short = absurd (omega arith)
    next_term l e span from place middle to wanted pipe s read p q more (suc n) short =
        let fewer : length to.left < n =
        omega (arith, token_shorter Pipe place middle pipe, expression_shorter text as_constraint e middle to s) in
        ap (λ o. o >>= checked) (when_true _ (stands_gives pipe)
        (step _ (ap (read_term text r) (behind_gives pipe) ∙ read)
        (ap (λ (x : Expression × Cursor). read_terms text r from n x.0 x.1)
        (node_is (binary_expression Or l e) span from to p q)))) ∙ more n fewer

    constraint_arrives : (c : Expression) (from to : Cursor) (wanted : Read Expression)
        → is_constraint c ≡ true
        → SpellsExpression text as_constraint c from to
        → expression_depth c ≤ below
        → is_next ends_term to ≡ true
        → TermsGoOn from c to wanted
        → read_constraint text r from ≡ wanted
    unfolding SpellsExpression SpellsForm expression_depth below_expression is_constraint
    constraint_arrives (expression_node (binary_expression Or l e) span) from to wanted h s d ends more =
        let rule = s.0.1.1 in
        let parts = and_parts (is_constraint l) (is_term e) h in
        let right = read_term-complete e rule.2.0 to parts.1 rule.2.2 (omega arith) ends in
        constraint_arrives l from rule.0 wanted parts.0 rule.1 (omega arith) (next_gives rule.2.1 ends_term)
        (next_term l e span from rule.0 rule.2.0 to wanted rule.2.1 rule.2.2 right s.1 s.2 more)
    constraint_arrives (expression_node (name_expression name) span) from to wanted h s d ends more =
        one_term (expression_node (name_expression name) span) from to wanted
        (read_term-complete (expression_node (name_expression name) span) from to h s d ends) more
    constraint_arrives (expression_node form span) from to wanted h s d ends more =
        one_term (expression_node form span) from to wanted
        (read_term-complete (expression_node form span) from to h s d ends) more

    pub read_constraint-complete : (c : Expression) (from to : Cursor)
        → is_constraint c ≡ true
        → SpellsExpression text as_constraint c from to
        → expression_depth c ≤ below
        → is_next ends_expression to ≡ true
        → read_constraint text r from ≡ Some (c, to)
    unfolding read_terms
    read_constraint-complete c from to h s d ends =
        constraint_arrives c from to (Some (c, to)) h s d (end_is_term to ends) stops
      where
        stops : (n : ℕ) → length to.left < n → (read_terms text r from n c to >>= checked) ≡ Some (c, to)
        stops zero short = absurd (omega arith)
        stops (suc n) short =
            step _ (when_false _ (stands_not ends_expression Pipe to refl ends) refl)
            (only_true h (only_true (fits_within c d) refl))

    -- no comma begins a constraint
    constraint_no_comma : (c : Expression) (from to : Cursor)
        → is_constraint c ≡ true
        → SpellsExpression text as_constraint c from to
        → stands Comma from ≡ false
    unfolding SpellsExpression SpellsForm is_constraint is_type same_kind
    constraint_no_comma (expression_node (binary_expression Or l e) span) from to h s =
        constraint_no_comma l from s.0.1.1.0 (and_parts (is_constraint l) (is_term e) h).0 s.0.1.1.1
    constraint_no_comma (expression_node (unary_expression Tilde e) span) from to h s =
        stands_other s.0.1.1.1 Comma refl
    constraint_no_comma (expression_node (name_expression name) span) from to h s =
        stands_other s.0.1.0 Comma refl
    constraint_no_comma (expression_node form span) from to h s =
        let spelled = type_as_expression (expression_node form span) from to h s in
        stands_not begins_expression Comma from refl
        (expression_begins text (expression_node form span) from to spelled)

    read_parameter-named : (n : Identifier) (c : Expression) (from middle to : Cursor)
        → identifier text n from middle
        → is_constraint c ≡ true
        → SpellsExpression text as_constraint c middle to
        → expression_depth c ≤ below
        → is_next ends_expression to ≡ true
        → read_type_parameter text r from ≡ Some (named_and n false c, to)
    unfolding read_type_parameter
    read_parameter-named n c from middle to name h s d ends =
        step _ (read_identifier-complete text n from middle name)
        (when_false _ (constraint_no_comma c middle to h s)
        (step _ (read_constraint-complete c middle to h s d ends) refl))

    read_parameter-alone : (n : Identifier) (from to : Cursor)
        → identifier text n from to
        → stands Comma to ≡ true
        → read_type_parameter text r from ≡ Some (name_alone_and n, to)
    unfolding read_type_parameter
    read_parameter-alone n from to name comma =
        step _ (read_identifier-complete text n from to name) (when_true _ comma refl)

    -- what follows a type parameter
    abbrev go_on_parameters : ℕ → (Parameters → Parameters) → Cursor → Read Parameters
    go_on_parameters n item place =
        if stands Comma place then (do
          more ← read_type_items text r n (behind place)
          Some (item more.0, more.1)
        ) else Some (item no_parameter, place)

    moved_name : (n : Identifier) (from other to : Cursor)
        → from ≡ other
        → identifier text n other to
        → identifier text n from to
    moved_name n from other to p s = subst (λ place. identifier text n place to) (sym p) s

    item_follows : (ps : Parameters) (from close to : Cursor)
        → SpellsTypeParameters text false ps from close
        → TakesToken RightBracket close to
        → is_next ends_expression from ≡ true
    unfolding SpellsTypeParameters
    item_follows no_parameter from close to (inl p) t = ap (is_next ends_expression) p ∙ next_gives t ends_expression
    item_follows no_parameter from close to (inr c) t = next_gives c ends_expression
    item_follows (named_and n ellipsis kind ps) from close to s t = next_gives s.1.1.1 ends_expression
    item_follows (unnamed_and ellipsis kind ps) from close to s t = absurd s
    item_follows (name_alone_and n ps) from close to s t = next_gives s.1 ends_expression

    comma_there : (ps : Parameters) (from close : Cursor)
        → end_constrained ps ≡ true
        → SpellsTypeParameters text false ps from close
        → stands Comma from ≡ true
    unfolding SpellsTypeParameters
    comma_there no_parameter from close h s = absurd (true≢false (sym h))
    comma_there (named_and n ellipsis kind ps) from close h s = stands_gives s.1.1.1
    comma_there (unnamed_and ellipsis kind ps) from close h s = absurd s
    comma_there (name_alone_and n ps) from close h s = stands_gives s.1

    -- those behind a parameter that ends a list, or others
    abbrev Typed : Parameters → Type 0
    Typed no_parameter = Unit {0}
    Typed ps = end_constrained ps ≡ true

    typed : (ps : Parameters) → end_constrained ps ≡ true → Typed ps
    typed no_parameter h = tt
    typed (named_and n ellipsis kind ps) h = h
    typed (unnamed_and ellipsis kind ps) h = h
    typed (name_alone_and n ps) h = h

    others_typed : (n : Identifier) (ellipsis : Bool) (kind : Expression) (ps : Parameters)
        → end_constrained (named_and n ellipsis kind ps) ≡ true
        → Typed ps
    others_typed n ellipsis kind no_parameter h = tt
    others_typed n ellipsis kind (named_and x dots other ps) h = h
    others_typed n ellipsis kind (unnamed_and dots other ps) h = h
    others_typed n ellipsis kind (name_alone_and x ps) h = h

    abbrev AreRead : ℕ → Parameters → Cursor → Type 0
    AreRead n ps close =
        (at : Cursor) → SpellsTypeParameters text true ps at close → length at.left < n
        → read_type_items text r n at ≡ Some (ps, close)

    after_parameter : (n : ℕ) (item : Parameters → Parameters) (ps : Parameters) (from close to : Cursor)
        → AreRead n ps close
        → SpellsTypeParameters text false ps from close
        → TakesToken RightBracket close to
        → length from.left ≤ n
        → go_on_parameters n item from ≡ Some (item ps, close)
    unfolding SpellsTypeParameters same_kind
    after_parameter n item no_parameter from close to read (inl p) t short =
        when_false _ (ap (stands Comma) p ∙ stands_other t Comma refl) (ap (λ place. Some (item no_parameter, place)) p)
    after_parameter n item no_parameter from close to read (inr c) t short =
        let fewer : length close.left < n = omega (arith, token_shorter Comma from close c) in
        when_true _ (stands_gives c)
        (step _ (ap (read_type_items text r n) (behind_gives c) ∙ read close refl fewer) refl)
    after_parameter n item (named_and x ellipsis kind ps) from close to read s t short =
        let rest = s.1.1 in
        let fewer : length rest.0.left < n = omega (arith, token_shorter Comma from rest.0 rest.1) in
        when_true _ (stands_gives rest.1)
        (step _ (ap (read_type_items text r n) (behind_gives rest.1)
        ∙ read rest.0 (s.0, (s.1.0, (rest.0, refl, rest.2))) fewer) refl)
    after_parameter n item (unnamed_and ellipsis kind ps) from close to read s t short = absurd s
    after_parameter n item (name_alone_and x ps) from close to read s t short =
        let fewer : length s.0.left < n = omega (arith, token_shorter Comma from s.0 s.1) in
        when_true _ (stands_gives s.1)
        (step _ (ap (read_type_items text r n) (behind_gives s.1) ∙ read s.0 (s.0, refl, s.2) fewer) refl)

    read_type_items-complete : (n : ℕ) (ps : Parameters) (from close to : Cursor)
        → Typed ps
        → SpellsTypeParameters text true ps from close
        → TakesToken RightBracket close to
        → parameters_depth ps ≤ below
        → length from.left < n
        → read_type_items text r n from ≡ Some (ps, close)
    unfolding read_type_items SpellsTypeParameters parameters_depth same_kind
    read_type_items-complete zero ps from close to h s t d short = absurd (omega arith)
    read_type_items-complete (suc n) no_parameter from close to h p t d short =
        when_true _ (ap (stands RightBracket) p ∙ stands_gives t) (λ i. Some (no_parameter, p i))
    read_type_items-complete (suc n) (named_and x ellipsis kind ps) from close to h s t d short =
        let rest = s.1.1.2 in
        let name : identifier text x from rest.0 = moved_name x from s.1.1.0 rest.0 s.1.1.1 rest.1 in
        let place : Cursor = rest.2.0 in
        let fewer : length place.left ≤ n =
        omega (
          arith,
          identifier_shorter text x from rest.0 name,
          expression_shorter text as_constraint kind rest.0 place rest.2.1,
        ) in
        when_false _ (stands_other name.0.0 RightBracket refl)
        (step _ (read_parameter-named x kind from rest.0 place name s.1.0 rest.2.1 (omega arith)
        (item_follows ps place close to rest.2.2 t))
        (after_parameter n (named_and x false kind) ps place close to
        (λ at spelled less. read_type_items-complete n ps at close to (others_typed x ellipsis kind ps h) spelled t
        (omega arith) less) rest.2.2 t fewer
        ∙ ap (λ b. Some (named_and x b kind ps, close)) (sym s.0)))
    read_type_items-complete (suc n) (unnamed_and ellipsis kind ps) from close to h s t d short = absurd s
    read_type_items-complete (suc n) (name_alone_and x ps) from close to h s t d short =
        let name : identifier text x from s.2.0 = moved_name x from s.0 s.2.0 s.1 s.2.1 in
        let fewer : length s.2.0.left ≤ n = omega (arith, identifier_shorter text x from s.2.0 name) in
        when_false _ (stands_other name.0.0 RightBracket refl)
        (step _ (read_parameter-alone x from s.2.0 name (comma_there ps s.2.0 close h s.2.2))
        (after_parameter n (name_alone_and x) ps s.2.0 close to
        (λ at spelled less. read_type_items-complete n ps at close to (typed ps h) spelled t d less) s.2.2 t fewer))

    pub read_type_parameters-complete : (ps : Parameters) (from to : Cursor)
        → end_constrained ps ≡ true
        → in_brackets (SpellsTypeParameters text true ps) from to
        → parameters_depth ps ≤ below
        → read_type_parameters text r from ≡ Some (ps, to)
    unfolding read_type_parameters
    read_type_parameters-complete ps from to h s d =
        step _ (take_gives s.1)
        (step _ (read_type_items-complete (steps s.0) ps s.0 s.2.0 to (typed ps h) s.2.1 s.2.2 d (omega arith))
        (step _ (take_gives s.2.2) (only_true h refl)))
