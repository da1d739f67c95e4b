-- The reader gives each declaration of constants, variables and types that is spelled.
use Rattle.std.proofs.lemmas.Bool.{and_parts}
use Rattle.std.proofs.Common.{true≢false, sym, inl, inr}
use Rattle.std.specs.Prelude.{◌&&◌}
use Rattle.tree.specs.declared.edition.Edition.{Edition}
use Rattle.tree.specs.declared.edition.Edition.TheVariants.{First, Second}
use Rattle.tree.specs.declared.operator.BinaryOperator.TheVariants.{Or, Multiply}
use Rattle.tree.specs.declared.operator.UnaryOperator.TheVariants.{Tilde}
use Rattle.tree.specs.declared.operator.ChanDirection.TheVariants.{Both, Send, Receive}
use Rattle.tree.specs.Depth.{below_expression, parameters_depth}
use Rattle.meaning.specs.Cursor.{one_of, ◌⇒◌, start_at}
use Rattle.meaning.specs.WellFormed.{level, is_type, is_term, is_constraint, end_constrained}
use Rattle.meaning.specs.TypeParameters.{is_identifier, begins_parameters, is_parameter, is_one_parameter, splits, split_has_type, has_type, joins}
use Rattle.meaning.specs.Grammar.{as_element, as_constraint, IsSecond, in_brackets, parameters_stand, no_type_parameters, after_type_name, SpellsForm, SpellsMore, SpellsTypeParameters}
use Rattle.tree_reader.specs.Reading.{span_between}
use Rattle.tree_reader.specs.Reader.{is_second, read_any, within, read_plain_type, read_generic_type, read_length_or_parameter}
use Rattle.tree_reader.proofs.Taken.{and_true, or_left, or_right}
use Rattle.tree_reader.proofs.Lengths.{after_type_name_longest, type_items_longest}
use Rattle.tree_reader.proofs.Begins.{name_token, first_name}
use Rattle.tree_reader.proofs.CompleteLists.{optional_follows, read_any-complete}
use Rattle.tree_reader.proofs.CompleteIndexes.{second_true}
use Rattle.tree_reader.proofs.CompleteInstances.{type_tight, type_as_expression, fits_within, read_type_parameters-complete}
use Rattle.tree_reader.proofs.CompleteSignatures.{depth_high, moved_name}
use Rattle.std.proofs.Common.{◌≡◌, ℕ, zero, suc, ◌≤◌, ◌<◌, Bool, true, false, List, [], ◌∷◌, length, Some, refl, subst, ap, ◌∙◌, arith}
use Rattle.std.specs.Prelude.{if◌then◌else◌, not, ◌||◌}
use Rattle.lexer.specs.Spelling.{same_kind}
use Rattle.lexer.specs.declared.token.TokenKind.{TokenKind}
use Rattle.lexer.specs.declared.token.TokenKind.TheVariants.{Identifier as identifier_kind, Assign, LeftParenthesis, RightParenthesis, LeftBracket, RightBracket, RightBrace, Comma, Semicolon}
use Rattle.tree.specs.declared.span.Span.{Span}
use Rattle.tree.specs.declared.operator.DeclKeyword.{DeclKeyword}
use Rattle.tree.specs.declared.operator.DeclKeyword.TheVariants.{Const, Var, «Type» as type_keyword}
use Rattle.tree.specs.Syntax.{Identifier, Expression, expression_node, name_expression, parenthesized, selector_expression, index_expression, instance_expression, call_expression, star_expression, unary_expression, binary_expression, array_type, ellipsis_array_type, slice_type, map_type, channel_type, function_type, struct_type, interface_type, key_value, Parameters, no_parameter, named_and, unnamed_and, name_alone_and, Expressions, no_expression, expression_and, OptionalExpression, missing_expression, present_expression, declaration_of, Specs, no_spec, value_and, type_and}
use Rattle.tree.specs.Depth.{expression_depth, expressions_depth, optional_depth, specs_depth}
use Rattle.meaning.specs.Cursor.{GoText, Cursor, TakesToken, ◌⨾◌, token, only_if, is_next, identifier, identifiers, semicolon, spanning}
use Rattle.meaning.specs.OperatorTokens.{can_begin_type}
use Rattle.meaning.specs.Grammar.{as_type, as_expression, perhaps, ValueFits, IsTypeKeyword, IsLast, SpellsExpression, SpellsExpressions, SpellsOptional, SpellsDeclaration, SpellsSpecs}
use Rattle.tree_reader.specs.Reading.{Read, ◌>>=◌, stands, behind, steps}
use Rattle.tree_reader.specs.Reader.{Readers, is_end, value_fits, read_expressions, read_value_spec, read_type_spec, read_spec, read_specs, read_declaration}
use Rattle.tree_reader.specs.Claims.{AreComplete}
use Rattle.tree_reader.proofs.Taken.{step, when_true, when_false, only_true, take_gives, stands_gives, stands_other, behind_gives, next_gives, stands_not, next_implied, next_excluded, take_semicolon_gives, before_semicolon, span_is, read_identifier-complete, read_identifiers-complete}
use Rattle.tree_reader.proofs.Lengths.{Shorter, NoLonger, spanning_shorter, token_shorter, expression_shorter, identifier_shorter, identifiers_shorter, semicolon_longest}
use Rattle.tree_reader.proofs.Begins.{type_begins}
use Rattle.tree_reader.proofs.CompleteLists.{ends_expression, ended, read_expressions-complete}
use Rattle.tree_reader.proofs.CompleteSignatures.{only_if_stands, only_if_past}
use Rattle.meaning.specs.Cursor.{Rule}
use Rattle.tree_reader.proofs.CompleteLists.{closing_is_end}
use Rattle.tree_reader.proofs.Lengths.{weak, both, first_then, chosen_longest, same_length, perhaps_longest, expressions_longest, optional_type_longest}

-- what follows the names of a spec and its type
abbrev ends_spec_type : TokenKind → Bool
ends_spec_type Assign = true
ends_spec_type Semicolon = true
ends_spec_type RightParenthesis = true
ends_spec_type RightBrace = true
ends_spec_type _ = false

end_ends_type : (k : TokenKind) → (not (is_end k) || ends_spec_type k) ≡ true
end_ends_type identifier_kind = refl
end_ends_type _ = refl

end_begins_no_type : (k : TokenKind) → (not (ends_spec_type k) || not (can_begin_type k)) ≡ true
end_begins_no_type identifier_kind = refl
end_begins_no_type _ = refl

end_ends_expression : (k : TokenKind) → (not (is_end k) || ends_expression k) ≡ true
end_ends_expression identifier_kind = refl
end_ends_expression _ = refl

value_fits-complete : (keyword : DeclKeyword) (t : OptionalExpression) (es : Expressions)
    → ValueFits keyword t es
    → value_fits keyword t es ≡ true
value_fits-complete Const missing_expression es h = refl
value_fits-complete Const (present_expression t) no_expression h = absurd h
value_fits-complete Const (present_expression t) (expression_and e es) h = refl
value_fits-complete Var missing_expression no_expression h = absurd h
value_fits-complete Var missing_expression (expression_and e es) h = refl
value_fits-complete Var (present_expression t) es h = refl
value_fits-complete type_keyword t es h = absurd h

-- no type parameters stand, and nothing is taken
between_same : (edition : Edition) (is_alias : Bool) (t : Expression) (from to : Cursor)
    → no_type_parameters edition is_alias t from to
    → from ≡ to
between_same First is_alias t from to h = h
between_same Second true t from to h = h
between_same Second false (expression_node (array_type m u) span) from to h = h.1.0
between_same Second false (expression_node (name_expression name) span) from to h = h
between_same Second false (expression_node _ span) from to h = h

stand_same : (one : Type 0) (from to : Cursor)
    → one_of (parameters_stand true) (one ⇒ parameters_stand false) from to
    → from ≡ to
stand_same one from to (inl h) = h.0
stand_same one from to (inr h) = h.1.0

-- in the second edition the length of an array is no type parameter
length_not : (edition : Edition) (m u : Expression) (span : Span) (place : Cursor)
    → is_second edition ≡ true
    → no_type_parameters edition false (expression_node (array_type m u) span) place place
    → (is_parameter m ≡ false) × (begins_parameters place.left ≡ false)
length_not First m u span place e h = absurd (true≢false (sym e))
length_not Second m u span place e h = (h.0, h.1.1)

abbrev is_array : Expression → Bool
is_array (expression_node (array_type m u) span) = true
is_array (expression_node form span) = false

-- the expression that a name and a constraint behind it make
abbrev join : Identifier → Expression → Expression
join n (expression_node (binary_expression Or l r) span) =
    expression_node (binary_expression Or (join n l) r) record { start = n.span.start; end = span.end }
join n (expression_node (star_expression y) span) =
    expression_node (binary_expression Multiply (expression_node (name_expression n.text) n.span) y)
    record { start = n.span.start; end = span.end }
join n (expression_node (parenthesized y) span) =
    expression_node
    (call_expression (expression_node (name_expression n.text) n.span) (expression_and y no_expression) false)
    record { start = n.span.start; end = span.end }
join n e = e

join_splits : (n : Identifier) (c : Expression) → joins c ≡ true → splits (join n c) ≡ true
unfolding joins splits
join_splits n (expression_node (binary_expression Or l r) span) h =
    join_splits n l (and_parts (joins l) (is_type r) h).0
join_splits n (expression_node (star_expression y) span) h = refl
join_splits n (expression_node (parenthesized y) span) h = refl
join_splits n (expression_node _ span) h = absurd (true≢false (sym h))

join_has_type : (n : Identifier) (c : Expression) → joins c ≡ true → split_has_type (join n c) ≡ has_type c
unfolding joins split_has_type has_type
join_has_type n (expression_node (binary_expression Or l r) span) h =
    ap (λ b. b || has_type r) (join_has_type n l (and_parts (joins l) (is_type r) h).0)
join_has_type n (expression_node (star_expression y) span) h = refl
join_has_type n (expression_node (parenthesized y) span) h = refl
join_has_type n (expression_node _ span) h = absurd (true≢false (sym h))

join_depth : (n : Identifier) (c : Expression) → joins c ≡ true → expression_depth (join n c) ≤ expression_depth c
unfolding joins expression_depth below_expression expressions_depth
join_depth n (expression_node (binary_expression Or l r) span) h =
    omega (arith, join_depth n l (and_parts (joins l) (is_type r) h).0)
join_depth n (expression_node (star_expression y) span) h = omega (arith, depth_high y)
join_depth n (expression_node (parenthesized y) span) h = omega (arith, depth_high y)
join_depth n (expression_node _ span) h = absurd (true≢false (sym h))

module _ (text : GoText) where
  join_spelled : (n : Identifier) (c : Expression) (from middle to : Cursor)
      → joins c ≡ true
      → is_constraint c ≡ true
      → identifier text n from middle
      → SpellsExpression text as_constraint c middle to
      → SpellsExpression text as_expression (join n c) from to × (4 ≤ level (join n c))
  unfolding SpellsExpression SpellsForm SpellsExpressions SpellsMore joins is_constraint
  join_spelled n (expression_node (binary_expression Or l r) span) from middle to h fits name s =
      let rule = s.0.1.1 in
      let parts = and_parts (joins l) (is_type r) h in
      let left = join_spelled n l from middle rule.0 parts.0 (and_parts (is_constraint l) (is_term r) fits).0 name rule.1 in
      let right = type_as_expression text r rule.2.0 to parts.1 rule.2.2 in
      let tight = type_tight r parts.1 in
      let high = left.1 in
      (((tt, ((omega arith, omega arith), (rule.0, left.0, (rule.2.0, rule.2.1, right)))), name.1, s.2), omega arith)
  join_spelled n (expression_node (star_expression y) span) from middle to h fits name s =
      let tight = s.0.0 in (
        (
          (tt, ((omega arith, omega arith), (middle, ((middle, name.0, refl), name.1, name.2), (s.0.1.0, s.0.1.1, s.0.1.2)))),
          name.1,
          s.2,
        ),
        omega arith,
      )
  join_spelled n (expression_node (parenthesized y) span) from middle to h fits name s =
      let close = s.0.2.0 in (
        (
          (
            tt,
            (
              refl,
              (
                middle,
                ((middle, name.0, refl), name.1, name.2),
                (s.0.0, s.0.1, (close, (close, (close, s.0.2.1, refl), (close, refl, inl refl)), s.0.2.2)),
              ),
            ),
          ),
          name.1,
          s.2,
        ),
        omega arith,
      )
  join_spelled n (expression_node _ span) from middle to h fits name s = absurd (true≢false (sym h))

  -- no type but an array begins with brackets and a name in them
  no_array : (t : Expression) (from to : Cursor)
      → is_array t ≡ false
      → SpellsExpression text as_type t from to
      → stands LeftBracket from ≡ true
      → is_next is_identifier (behind from) ≡ true
      → ⊥
  unfolding SpellsExpression SpellsForm same_kind
  no_array (expression_node (array_type m u) span) from to a s b h = true≢false a
  no_array (expression_node (slice_type t) span) from to a s b h =
      let inner = s.0.1 in
      let close : TakesToken RightBracket inner.0 s.0.0 =
      subst (λ place. TakesToken RightBracket place s.0.0) (sym inner.2.1) inner.2.2 in
      true≢false (sym h ∙ (ap (is_next is_identifier) (behind_gives inner.1) ∙ next_gives close is_identifier))
  no_array (expression_node (ellipsis_array_type t) span) from to a s b h =
      let inner = s.0.1 in
      true≢false (sym h ∙ (ap (is_next is_identifier) (behind_gives inner.1) ∙ next_gives inner.2.1 is_identifier))
  no_array (expression_node (name_expression x) span) from to a s b h =
      true≢false (sym b ∙ stands_other s.0.1.0 LeftBracket refl)
  no_array (expression_node (selector_expression e x) span) from to a s b h =
      true≢false (sym b ∙ stands_other (name_token text e from s.0.1.0 s.0.0 s.0.1.1).1 LeftBracket refl)
  no_array (expression_node (index_expression e i) span) from to a s b h =
      true≢false (sym b ∙ stands_other (first_name text e from s.0.1.1.0 s.0.0.1 s.0.1.1.1).1 LeftBracket refl)
  no_array (expression_node (instance_expression e es) span) from to a s b h =
      true≢false (sym b ∙ stands_other (first_name text e from s.0.1.1.1.0 s.0.1.0.1 s.0.1.1.1.1).1 LeftBracket refl)
  no_array (expression_node (parenthesized e) span) from to a s b h =
      true≢false (sym b ∙ stands_other s.0.1 LeftBracket refl)
  no_array (expression_node (star_expression e) span) from to a s b h =
      true≢false (sym b ∙ stands_other s.0.1.1 LeftBracket refl)
  no_array (expression_node (map_type k t) span) from to a s b h =
      true≢false (sym b ∙ stands_other s.0.1 LeftBracket refl)
  no_array (expression_node (channel_type Both t) span) from to a s b h =
      true≢false (sym b ∙ stands_other s.0.1.1 LeftBracket refl)
  no_array (expression_node (channel_type Send t) span) from to a s b h =
      true≢false (sym b ∙ stands_other s.0.1.1 LeftBracket refl)
  no_array (expression_node (channel_type Receive t) span) from to a s b h =
      true≢false (sym b ∙ stands_other s.0.1.1 LeftBracket refl)
  no_array (expression_node (function_type signature) span) from to a s b h =
      true≢false (sym b ∙ stands_other s.0.1 LeftBracket refl)
  no_array (expression_node (struct_type fs) span) from to a s b h =
      true≢false (sym b ∙ stands_other s.0.1 LeftBracket refl)
  no_array (expression_node (interface_type fs) span) from to a s b h =
      true≢false (sym b ∙ stands_other s.0.1 LeftBracket refl)
  no_array (expression_node (key_value k v) span) from to a s b h = let p : as_type ≡ as_element = s.0.0 in cc
  no_array (expression_node (unary_expression Tilde e) span) from to a s b h =
      let p : as_type ≡ as_constraint = s.0.0 in cc
  no_array (expression_node form span) from to a s b h = absurd s.0.0

module _ (text : GoText) where
  abbrev SpellsValues : Expressions → Rule
  SpellsValues es = perhaps es (token Assign ⨾ SpellsExpressions text as_expression es)

  abbrev SpellsValue : List Identifier → OptionalExpression → Expressions → Span → Rule
  SpellsValue ns t es span = spanning span (identifiers text ns ⨾ SpellsOptional text as_type t ⨾ SpellsValues es)

  abbrev SpellsType : Identifier → Parameters → Bool → Expression → Span → Rule
  SpellsType n ps is_alias t span =
      spanning span (identifier text n ⨾ after_type_name text.edition ps is_alias t (SpellsTypeParameters text true ps)
      ⨾ only_if is_alias (token Assign) ⨾ SpellsExpression text as_type t)

  value_shorter : (ns : List Identifier) (t : OptionalExpression) (es : Expressions) (span : Span)
      → Shorter (SpellsValue ns t es span)
  value_shorter ns t es span =
      let values : NoLonger (SpellsValues es) =
      perhaps_longest es (both (weak (token_shorter Assign)) (expressions_longest text as_expression es)) in
      spanning_shorter (first_then (identifiers_shorter text ns) (both (optional_type_longest text t) values))

  type_shorter : (n : Identifier) (ps : Parameters) (is_alias : Bool) (t : Expression) (span : Span)
      → Shorter (SpellsType n ps is_alias t span)
  type_shorter n ps is_alias t span =
      let assign : NoLonger (only_if is_alias (token Assign)) =
      chosen_longest is_alias (weak (token_shorter Assign)) same_length in
      spanning_shorter (first_then (identifier_shorter text n)
      (both (after_type_name_longest text.edition ps is_alias t (type_items_longest text true ps))
      (both assign (weak (expression_shorter text as_type t)))))

  values_follow : (es : Expressions) (from to : Cursor)
      → SpellsValues es from to
      → is_next is_end to ≡ true
      → is_next ends_spec_type from ≡ true
  values_follow no_expression from to p h =
      ap (is_next ends_spec_type) p ∙ next_implied is_end ends_spec_type to end_ends_type h
  values_follow (expression_and e es) from to s h = next_gives s.1 ends_spec_type

  no_comma : (t : OptionalExpression) (from to : Cursor)
      → SpellsOptional text as_type t from to
      → is_next ends_spec_type to ≡ true
      → stands Comma from ≡ false
  unfolding SpellsOptional
  no_comma missing_expression from to p h = ap (stands Comma) p ∙ stands_not ends_spec_type Comma to refl h
  no_comma (present_expression t) from to s h = stands_not can_begin_type Comma from refl (type_begins text t from to s)

  module _ (r : Readers) (below : ℕ) (complete : AreComplete text below r) where
    abbrev spec_type_at : Cursor → Read OptionalExpression
    spec_type_at place =
        if is_next can_begin_type place then (do
          t ← r.read_type place
          Some (present_expression t.0, t.1)
        ) else Some (missing_expression, place)

    spec_type-complete : (t : OptionalExpression) (from to : Cursor)
        → SpellsOptional text as_type t from to
        → optional_depth t ≤ below
        → is_next ends_spec_type to ≡ true
        → spec_type_at from ≡ Some (t, to)
    unfolding SpellsOptional optional_depth
    spec_type-complete missing_expression from to p d h =
        when_false _ (ap (is_next can_begin_type) p
        ∙ next_excluded ends_spec_type can_begin_type to end_begins_no_type h) (λ i. Some (missing_expression, p i))
    spec_type-complete (present_expression t) from to s d h =
        when_true _ (type_begins text t from to s) (step _ (complete.type from to t s d) refl)

    abbrev spec_values_at : Cursor → Read Expressions
    spec_values_at place =
        if stands Assign place then read_expressions text r false (behind place) else Some (no_expression, place)

    spec_values-complete : (es : Expressions) (from to : Cursor)
        → SpellsValues es from to
        → expressions_depth es ≤ below
        → is_next is_end to ≡ true
        → spec_values_at from ≡ Some (es, to)
    spec_values-complete no_expression from to p d h =
        when_false _ (ap (stands Assign) p ∙ stands_not is_end Assign to refl h) (λ i. Some (no_expression, p i))
    spec_values-complete (expression_and e es) from to s d h =
        when_true _ (stands_gives s.1)
        (ap (read_expressions text r false) (behind_gives s.1)
        ∙ read_expressions-complete text r below complete false (expression_and e es) s.0 to s.2 tt d
        (ended false 1 to (next_implied is_end ends_expression to end_ends_expression h))
        (stands_not is_end Comma to refl h))

    read_value_spec-complete : (keyword : DeclKeyword) (ns : List Identifier) (t : OptionalExpression)
        (es : Expressions) (span : Span) (from to : Cursor)
        → ValueFits keyword t es
        → SpellsValue ns t es span from to
        → optional_depth t ≤ below
        → expressions_depth es ≤ below
        → is_next is_end to ≡ true
        → read_value_spec text r keyword from ≡ Some (value_and ns t es span, to)
    unfolding read_value_spec
    read_value_spec-complete keyword ns t es span from to f s d k h =
        let middle : Cursor = s.0.2.0 in
        let follows : is_next ends_spec_type middle ≡ true = values_follow es middle to s.0.2.2 h in
        step _ (read_identifiers-complete text ns from s.0.0 s.0.1 (no_comma t s.0.0 middle s.0.2.1 follows))
        (step _ (spec_type-complete t s.0.0 middle s.0.2.1 d follows)
        (step _ (spec_values-complete es middle to s.0.2.2 k h)
        (only_true (value_fits-complete keyword t es f)
        (λ i. Some (value_and ns t es (span_is span from to s.1 s.2 i), to)))))

    read_plain-complete : (n : Identifier) (ps : Parameters) (is_alias : Bool) (t : Expression) (span : Span)
        (from before place to : Cursor)
        → only_if is_alias (token Assign) before place
        → SpellsExpression text as_type t place to
        → expression_depth t ≤ below
        → span.start ≡ start_at from
        → span.end ≡ to.end
        → read_plain_type text r from n ps before ≡ Some (type_and n ps is_alias t span, to)
    unfolding read_plain_type
    read_plain-complete n ps is_alias t span from before place to assign s d p q =
        let no_assign : stands Assign place ≡ false =
        stands_not can_begin_type Assign place refl (type_begins text t place to s) in
        step _ (ap r.read_type (only_if_past Assign is_alias before place assign no_assign)
        ∙ complete.type place to t s d)
        (λ i. Some (
          type_and n ps (only_if_stands Assign is_alias before place assign no_assign i) t
              (span_is span from to p q i),
          to,
        ))

    -- a name and brackets behind it, with a name first
    abbrev opens : Cursor → Bool
    opens place = is_second text.edition && (stands LeftBracket place && is_next is_identifier (behind place))

    -- type parameters, and the type
    read_generic-complete : (n : Identifier) (ps : Parameters) (is_alias : Bool) (t : Expression) (span : Span)
        (from before after place to : Cursor)
        → end_constrained ps ≡ true
        → (begins_parameters before.left || is_one_parameter ps) ≡ true
        → in_brackets (SpellsTypeParameters text true ps) before after
        → only_if is_alias (token Assign) after place
        → SpellsExpression text as_type t place to
        → parameters_depth ps ≤ below
        → expression_depth t ≤ below
        → span.start ≡ start_at from
        → span.end ≡ to.end
        → read_generic_type text r from n before ≡ Some (type_and n ps is_alias t span, to)
    unfolding read_generic_type
    read_generic-complete n ps is_alias t span from before after place to h stand list assign s k d p q =
        step _ (read_type_parameters-complete text r below complete ps before after h list k)
        (only_true stand (read_plain-complete n ps is_alias t span from after place to assign s d p q))

    -- an array whose length is read as no type parameter
    read_array-complete : (n : Identifier) (m t : Expression) (inside span : Span) (from place to : Cursor)
        → is_parameter m ≡ false
        → SpellsExpression text as_type (expression_node (array_type m t) inside) place to
        → expression_depth (expression_node (array_type m t) inside) ≤ below
        → span.start ≡ start_at from
        → span.end ≡ to.end
        → read_length_or_parameter text r from n place
        ≡ Some (type_and n no_parameter false (expression_node (array_type m t) inside) span, to)
    unfolding read_length_or_parameter SpellsExpression SpellsForm expression_depth below_expression
    read_array-complete n m t inside span from place to h s d p q =
        let brackets = s.0.1 in
        let close : Cursor = s.0.0 in
        let element : SpellsExpression text as_type t close to =
        subst (λ c. SpellsExpression text as_type t close c) s.0.2.2 s.0.2.1 in
        let array = expression_node (array_type m t) (span_between place to) in
        let fit : within text r (array, to) ≡ Some (array, to) = only_true (fits_within text r below complete array d) refl in
        step _ (ap (read_any text r) (behind_gives brackets.1)
        ∙ read_any-complete text r below complete m brackets.0 brackets.2.0 brackets.2.1 (omega arith)
        (next_gives brackets.2.2 ends_expression))
        (when_false _ h
        (step _ (take_gives brackets.2.2)
        (step _ (complete.type close to t element (omega arith))
        (step _ fit
        (λ i. Some (
          type_and n no_parameter false (expression_node (array_type m t) (span_is inside place to s.1 s.2 i))
              (span_is span from to p q i),
          to,
        ))))))

    -- a type behind a name, where no type parameters stand
    without_parameters : (n : Identifier) (is_alias : Bool) (t : Expression) (span : Span) (from place after to : Cursor)
        → no_type_parameters text.edition is_alias t place place
        → only_if is_alias (token Assign) place after
        → SpellsExpression text as_type t after to
        → expression_depth t ≤ below
        → span.start ≡ start_at from
        → span.end ≡ to.end
        → (b : Bool)
        → opens place ≡ b
        → (if opens place
        then if begins_parameters place.left
        then read_generic_type text r from n place
        else read_length_or_parameter text r from n place
        else read_plain_type text r from n no_parameter place) ≡ Some (type_and n no_parameter is_alias t span, to)
    unfolding SpellsExpression SpellsForm same_kind
    without_parameters n is_alias t span from place after to none assign s d p q false test =
        when_false _ test (read_plain-complete n no_parameter is_alias t span from place after to assign s d p q)
    without_parameters n true t span from place after to none assign s d p q true test =
        let tests = (and_parts (is_second text.edition) _ test).1 in
        absurd (true≢false (sym (and_parts (stands LeftBracket place) _ tests).0 ∙ stands_other assign LeftBracket refl))
    without_parameters n false (expression_node (array_type m u) inside) span from place after to none assign s d p q true test =
        let second = (and_parts (is_second text.edition) _ test).0 in
        let length = length_not text.edition m u inside place second none in
        let t = expression_node (array_type m u) inside in
        let spelled : SpellsExpression text as_type t place to =
        subst (λ c. SpellsExpression text as_type t c to) (sym assign) s in
        when_true _ test
        (when_false _ length.1 (read_array-complete n m u inside span from place to length.0 spelled d p q))
    without_parameters n false (expression_node form inside) span from place after to none assign s d p q true test =
        let tests = (and_parts (is_second text.edition) _ test).1 in
        let parts = and_parts (stands LeftBracket place) _ tests in
        let t = expression_node form inside in
        let spelled : SpellsExpression text as_type t place to =
        subst (λ c. SpellsExpression text as_type t c to) (sym assign) s in
        absurd (no_array text t place to refl spelled parts.0 parts.1)

    -- the expression that a name and a constraint make, as it is read
    record ReadsLength (from : Cursor) : Type 0 where
      length : Expression
      end : Cursor
      read : read_any text r from ≡ Some (length, end)
      is : is_parameter length ≡ true

    one_length : (ps : Parameters) (from close to : Cursor)
        → is_one_parameter ps ≡ true
        → SpellsTypeParameters text true ps from close
        → TakesToken RightBracket close to
        → parameters_depth ps ≤ below
        → ReadsLength from
    unfolding SpellsTypeParameters parameters_depth
    one_length no_parameter from close to h s t d = absurd (true≢false (sym h))
    one_length (unnamed_and ellipsis c ps) from close to h s t d = absurd (true≢false (sym h))
    one_length (name_alone_and n ps) from close to h s t d = absurd (true≢false (sym h))
    one_length (named_and n ellipsis c (named_and x dots e ps)) from close to h s t d = absurd (true≢false (sym h))
    one_length (named_and n ellipsis c (unnamed_and dots e ps)) from close to h s t d = absurd (true≢false (sym h))
    one_length (named_and n ellipsis c (name_alone_and x ps)) from close to h s t d = absurd (true≢false (sym h))
    one_length (named_and n ellipsis c no_parameter) from close to h s t d =
        let rest = s.1.1.2 in
        let name : identifier text n from rest.0 = moved_name text n from s.1.1.0 rest.0 s.1.1.1 rest.1 in
        let tests = and_parts (joins c) (has_type c) h in
        let whole = join_spelled text n c from rest.0 rest.2.0 tests.0 s.1.0 name rest.2.1 in
        let ends : is_next ends_expression rest.2.0 ≡ true =
        optional_follows ends_expression Comma rest.2.0 close refl rest.2.2 (next_gives t ends_expression) in
        record {
          length = join n c;
          end = rest.2.0;
          read = read_any-complete text r below complete (join n c) from rest.2.0 whole.0
              (omega (arith, join_depth n c tests.0)) ends;
          is = and_true (join_splits n c tests.0) (join_has_type n c tests.0 ∙ tests.1);
        }

    parameters_begin : (ps : Parameters) (from close : Cursor)
        → end_constrained ps ≡ true
        → SpellsTypeParameters text true ps from close
        → is_next is_identifier from ≡ true
    unfolding SpellsTypeParameters
    parameters_begin no_parameter from close h s = absurd (true≢false (sym h))
    parameters_begin (named_and n ellipsis c ps) from close h s =
        let rest = s.1.1.2 in
        let name : identifier text n from rest.0 = moved_name text n from s.1.1.0 rest.0 s.1.1.1 rest.1 in
        next_gives name.0.0 is_identifier
    parameters_begin (unnamed_and ellipsis c ps) from close h s = absurd s
    parameters_begin (name_alone_and n ps) from close h s =
        let name : identifier text n from s.2.0 = moved_name text n from s.0 s.2.0 s.1 s.2.1 in
        next_gives name.0.0 is_identifier

    -- a type behind type parameters
    with_parameters : (n : Identifier) (ps : Parameters) (is_alias : Bool) (t : Expression) (span : Span)
        (from before after place to : Cursor)
        → IsSecond text.edition
        → end_constrained ps ≡ true
        → one_of (parameters_stand true) ((is_one_parameter ps ≡ true) ⇒ parameters_stand false) before before
        → in_brackets (SpellsTypeParameters text true ps) before after
        → only_if is_alias (token Assign) after place
        → SpellsExpression text as_type t place to
        → parameters_depth ps ≤ below
        → expression_depth t ≤ below
        → span.start ≡ start_at from
        → span.end ≡ to.end
        → (if opens before
        then if begins_parameters before.left
        then read_generic_type text r from n before
        else read_length_or_parameter text r from n before
        else read_plain_type text r from n no_parameter before) ≡ Some (type_and n ps is_alias t span, to)
    unfolding read_length_or_parameter
    with_parameters n ps is_alias t span from before after place to second h (inl stand) list assign s k d p q =
        let test = and_true (second_true text.edition second) (and_true (stands_gives list.1)
        (ap (is_next is_identifier) (behind_gives list.1) ∙ parameters_begin ps list.0 list.2.0 h list.2.1)) in
        when_true _ test
        (when_true _ stand.1
        (read_generic-complete n ps is_alias t span from before after place to h (or_left _ stand.1) list assign s k d p q))
    with_parameters n ps is_alias t span from before after place to second h (inr stand) list assign s k d p q =
        let test = and_true (second_true text.edition second) (and_true (stands_gives list.1)
        (ap (is_next is_identifier) (behind_gives list.1) ∙ parameters_begin ps list.0 list.2.0 h list.2.1)) in
        let one = one_length ps list.0 list.2.0 after stand.0 list.2.1 list.2.2 k in
        when_true _ test
        (when_false _ stand.1.1
        (step _ (ap (read_any text r) (behind_gives list.1) ∙ one.read)
        (when_true _ one.is
        (read_generic-complete n ps is_alias t span from before after place to h (or_right _ stand.0) list assign s k d
        p q))))

    parameters-read : (n : Identifier) (ps : Parameters) (is_alias : Bool) (t : Expression) (span : Span)
        (from name before after place to : Cursor)
        → identifier text n from name
        → one_of (parameters_stand true) ((is_one_parameter ps ≡ true) ⇒ parameters_stand false) name before
        → IsSecond text.edition
        → end_constrained ps ≡ true
        → in_brackets (SpellsTypeParameters text true ps) before after
        → only_if is_alias (token Assign) after place
        → SpellsExpression text as_type t place to
        → parameters_depth ps ≤ below
        → expression_depth t ≤ below
        → span.start ≡ start_at from
        → span.end ≡ to.end
        → read_type_spec text r from ≡ Some (type_and n ps is_alias t span, to)
    unfolding read_type_spec
    parameters-read n ps is_alias t span from name before after place to named stand second h list assign s k d p q =
        let same : name ≡ before = stand_same (is_one_parameter ps ≡ true) name before stand in
        let there = subst (λ c. one_of (parameters_stand true) ((is_one_parameter ps ≡ true) ⇒ parameters_stand false) name c)
        (sym same) stand in
        let brackets = subst (λ c. in_brackets (SpellsTypeParameters text true ps) c after) (sym same) list in
        step _ (read_identifier-complete text n from name named)
        (with_parameters n ps is_alias t span from name after place to second h there brackets assign s k d p q)

    read_type_spec-complete : (n : Identifier) (ps : Parameters) (is_alias : Bool) (t : Expression) (span : Span)
        (from to : Cursor)
        → SpellsType n ps is_alias t span from to
        → parameters_depth ps ≤ below
        → expression_depth t ≤ below
        → read_type_spec text r from ≡ Some (type_and n ps is_alias t span, to)
    unfolding read_type_spec
    read_type_spec-complete n no_parameter is_alias t span from to s k d =
        let place : Cursor = s.0.0 in
        let between : place ≡ s.0.2.0 = between_same text.edition is_alias t place s.0.2.0 s.0.2.1 in
        let none : no_type_parameters text.edition is_alias t place place =
        subst (λ c. no_type_parameters text.edition is_alias t place c) (sym between) s.0.2.1 in
        let assign : only_if is_alias (token Assign) place s.0.2.2.0 =
        subst (λ c. only_if is_alias (token Assign) c s.0.2.2.0) (sym between) s.0.2.2.1 in
        step _ (read_identifier-complete text n from place s.0.1)
        (without_parameters n is_alias t span from place s.0.2.2.0 to none assign s.0.2.2.2 d s.1 s.2 (opens place) refl)
    read_type_spec-complete n (named_and x ellipsis c ps) is_alias t span from to s k d =
        parameters-read n (named_and x ellipsis c ps) is_alias t span from s.0.0 s.0.2.1.0 s.0.2.0 s.0.2.2.0 to s.0.1
        s.0.2.1.1 s.0.2.1.2.0 s.0.2.1.2.1.0 s.0.2.1.2.1.1 s.0.2.2.1 s.0.2.2.2 k d s.1 s.2
    read_type_spec-complete n (unnamed_and ellipsis c ps) is_alias t span from to s k d =
        parameters-read n (unnamed_and ellipsis c ps) is_alias t span from s.0.0 s.0.2.1.0 s.0.2.0 s.0.2.2.0 to s.0.1
        s.0.2.1.1 s.0.2.1.2.0 s.0.2.1.2.1.0 s.0.2.1.2.1.1 s.0.2.2.1 s.0.2.2.2 k d s.1 s.2
    read_type_spec-complete n (name_alone_and x ps) is_alias t span from to s k d =
        parameters-read n (name_alone_and x ps) is_alias t span from s.0.0 s.0.2.1.0 s.0.2.0 s.0.2.2.0 to s.0.1
        s.0.2.1.1 s.0.2.1.2.0 s.0.2.1.2.1.0 s.0.2.1.2.1.1 s.0.2.2.1 s.0.2.2.2 k d s.1 s.2

    value_read : (keyword : DeclKeyword) (ns : List Identifier) (t : OptionalExpression) (es : Expressions)
        (span : Span) (from to : Cursor)
        → ValueFits keyword t es
        → SpellsValue ns t es span from to
        → optional_depth t ≤ below
        → expressions_depth es ≤ below
        → is_next is_end to ≡ true
        → read_spec text r keyword from ≡ Some (value_and ns t es span, to)
    value_read Const ns t es span from to f s d k h = read_value_spec-complete Const ns t es span from to f s d k h
    value_read Var ns t es span from to f s d k h = read_value_spec-complete Var ns t es span from to f s d k h
    value_read type_keyword ns t es span from to f s d k h = absurd f

    type_read : (keyword : DeclKeyword) (n : Identifier) (ps : Parameters) (is_alias : Bool) (t : Expression)
        (span : Span) (from to : Cursor)
        → IsTypeKeyword keyword
        → SpellsType n ps is_alias t span from to
        → parameters_depth ps ≤ below
        → expression_depth t ≤ below
        → read_spec text r keyword from ≡ Some (type_and n ps is_alias t span, to)
    type_read Const n ps is_alias t span from to f s k d = absurd f
    type_read Var n ps is_alias t span from to f s k d = absurd f
    type_read type_keyword n ps is_alias t span from to f s k d = read_type_spec-complete n ps is_alias t span from to s k d

    names_begin : (kind : TokenKind) (ns : List Identifier) (from to : Cursor)
        → same_kind identifier_kind kind ≡ false
        → identifiers text ns from to
        → stands kind from ≡ false
    names_begin kind [] from to e s = absurd s
    names_begin kind (n ∷ ns) from to e s = stands_other s.1.0.0 kind e

    -- a spec, what follows it, and the other specs
    spec_first : (keyword : DeclKeyword) (n : ℕ) (spec : Specs → Specs) (specs : Specs) (from to next close : Cursor)
        → read_spec text r keyword from ≡ Some (spec, to)
        → stands RightParenthesis from ≡ false
        → semicolon to next
        → read_specs text r keyword n next ≡ Some (specs, close)
        → read_specs text r keyword (suc n) from ≡ Some (spec specs, close)
    unfolding read_specs
    spec_first keyword n spec specs from to next close read begins end more =
        when_false _ begins (step _ read (step _ (take_semicolon_gives end) (step _ more refl)))

    pub read_specs-complete : (keyword : DeclKeyword) (n : ℕ) (specs : Specs) (from close to : Cursor)
        → SpellsSpecs text keyword true specs from close
        → TakesToken RightParenthesis close to
        → specs_depth specs ≤ below
        → length from.left < n
        → read_specs text r keyword n from ≡ Some (specs, close)
    unfolding read_specs SpellsSpecs specs_depth same_kind
    read_specs-complete keyword zero specs from close to s t d short = absurd (omega arith)
    read_specs-complete keyword (suc n) no_spec from close to p t d short =
        when_true _ (ap (stands RightParenthesis) p ∙ stands_gives t) (λ i. Some (no_spec, p i))
    read_specs-complete keyword (suc n) (value_and ns kind es span specs) from close to s t d short =
        let place : Cursor = s.1.0 in
        let rest = s.1.2 in
        let follows : is_next is_end place ≡ true = before_semicolon is_end place rest.0 refl closing_is_end rest.1 in
        let fewer : length rest.0.left < n =
        omega (arith, value_shorter ns kind es span from place s.1.1, semicolon_longest place rest.0 rest.1) in
        spec_first keyword n (value_and ns kind es span) specs from place rest.0 close
        (value_read keyword ns kind es span from place s.0 s.1.1 (omega arith) (omega arith) follows)
        (names_begin RightParenthesis ns from s.1.1.0.0 refl s.1.1.0.1) rest.1
        (read_specs-complete keyword n specs rest.0 close to rest.2 t (omega arith) fewer)
    read_specs-complete keyword (suc n) (type_and x ps is_alias kind span specs) from close to s t d short =
        let place : Cursor = s.1.0 in
        let rest = s.1.2 in
        let fewer : length rest.0.left < n =
        omega (arith, type_shorter x ps is_alias kind span from place s.1.1, semicolon_longest place rest.0 rest.1) in
        spec_first keyword n (type_and x ps is_alias kind span) specs from place rest.0 close
        (type_read keyword x ps is_alias kind span from place s.0 s.1.1 (omega arith) (omega arith))
        (stands_other s.1.1.0.1.0.0 RightParenthesis refl) rest.1
        (read_specs-complete keyword n specs rest.0 close to rest.2 t (omega arith) fewer)

    -- the one spec of a declaration without brackets
    record Single (keyword : DeclKeyword) (specs : Specs) (from to : Cursor) : Type 0 where
      spec : Specs → Specs
      read : read_spec text r keyword from ≡ Some (spec, to)
      same : spec no_spec ≡ specs
      begins : stands LeftParenthesis from ≡ false

    last : (specs : Specs) → IsLast specs → no_spec ≡ specs
    last no_spec h = refl
    last (value_and ns t es span specs) h = absurd h
    last (type_and n ps is_alias t span specs) h = absurd h

    single : (keyword : DeclKeyword) (specs : Specs) (from to : Cursor)
        → SpellsSpecs text keyword false specs from to
        → specs_depth specs ≤ below
        → is_next is_end to ≡ true
        → Single keyword specs from to
    unfolding SpellsSpecs specs_depth same_kind
    single keyword no_spec from to s d h = absurd s
    single keyword (value_and ns kind es span specs) from to s d h =
        let spelled : SpellsValue ns kind es span from to =
        subst (λ place. SpellsValue ns kind es span from place) s.1.2.1 s.1.1 in
        record {
          spec = value_and ns kind es span;
          read = value_read keyword ns kind es span from to s.0 spelled (omega arith) (omega arith) h;
          same = ap (value_and ns kind es span) (last specs s.1.2.0);
          begins = names_begin LeftParenthesis ns from spelled.0.0 refl spelled.0.1;
        }
    single keyword (type_and x ps is_alias kind span specs) from to s d h =
        let spelled : SpellsType x ps is_alias kind span from to =
        subst (λ place. SpellsType x ps is_alias kind span from place) s.1.2.1 s.1.1 in
        record {
          spec = type_and x ps is_alias kind span;
          read = type_read keyword x ps is_alias kind span from to s.0 spelled (omega arith) (omega arith);
          same = ap (type_and x ps is_alias kind span) (last specs s.1.2.0);
          begins = stands_other spelled.0.1.0.0 LeftParenthesis refl;
        }

    pub read_declaration-complete : (keyword : DeclKeyword) (specs : Specs) (is_grouped : Bool) (span : Span)
        (from to : Cursor)
        → SpellsDeclaration text (declaration_of keyword specs is_grouped span) from to
        → specs_depth specs ≤ below
        → is_next is_end to ≡ true
        → read_declaration text r keyword from ≡ Some (declaration_of keyword specs is_grouped span, to)
    unfolding read_declaration SpellsDeclaration
    read_declaration-complete keyword specs true span from to s d h =
        let group = s.0.2 in
        rw (behind_gives s.0.1)
        (when_true _ (stands_gives group.1)
        (step _ (ap (λ at. read_specs text r keyword (steps at) at) (behind_gives group.1)
        ∙ read_specs-complete keyword (steps group.0) specs group.0 group.2.0 to group.2.1 group.2.2 d
        (omega arith))
        (step _ (take_gives group.2.2)
        (λ i. Some (declaration_of keyword specs true (span_is span from to s.1 s.2 i), to)))))
    read_declaration-complete keyword specs false span from to s d h =
        let one : Single keyword specs s.0.0 to = single keyword specs s.0.0 to s.0.2 d h in
        rw (behind_gives s.0.1)
        (when_false _ one.begins
        (step _ one.read (λ i. Some (
          declaration_of keyword (one.same i) false
              (span_is span from to s.1 s.2 i),
          to,
        ))))
