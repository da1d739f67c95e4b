-- The reader gives each signature that is spelled. A name alone is read as a type first.
use Rattle.std.proofs.lemmas.Bool.{and_parts}
use Rattle.std.proofs.Common.{◌⊎◌}
use Rattle.tree.specs.declared.operator.UnaryOperator.TheVariants.{Tilde}
use Rattle.tree_reader.specs.Reader.{read_indexed, is_second, opens_index}
use Rattle.tree_reader.proofs.Steps.{stands-sound}
use Rattle.tree_reader.proofs.Begins.{begins_expression, expression_begins, first_name}
use Rattle.tree_reader.proofs.CompleteIndexes.{second_true}
use Rattle.tree_reader.proofs.CompleteInstances.{read_indexed-array, read_indexed-index, read_indexed-instance}
use Rattle.std.proofs.Common.{◌≡◌, ℕ, zero, suc, ◌≤◌, ◌<◌, Bool, true, false, true≢false, List, length, Some, None, refl, sym, subst, ap, ◌∙◌, inl, inr, arith}
use Rattle.std.specs.Prelude.{if◌then◌else◌, not, ◌&&◌, ◌||◌}
use Rattle.lexer.specs.Spelling.{same_kind}
use Rattle.lexer.specs.declared.token.TokenKind.{TokenKind}
use Rattle.lexer.specs.declared.token.TokenKind.TheVariants.{Identifier as identifier_kind, Ellipsis, LeftParenthesis, RightParenthesis, Comma, LeftBracket, RightBracket, Dot}
use Rattle.tree.specs.declared.operator.ChanDirection.TheVariants.{Both, Send, Receive as receive_only}
use Rattle.tree.specs.Syntax.{Identifier, Expression, expression_node, name_expression, basic_literal, key_value, parenthesized, selector_expression, star_expression, array_type, ellipsis_array_type, slice_type, map_type, channel_type, function_type, struct_type, interface_type, Signature, signature_of, Parameters, no_parameter, named_and, unnamed_and, name_alone_and, index_expression, instance_expression, unary_expression, Expressions, no_expression, expression_and}
use Rattle.tree.specs.Depth.{expression_depth, below_expression, signature_depth, parameters_depth}
use Rattle.meaning.specs.Cursor.{GoText, Cursor, TakesToken, token, optional, only_if, is_next, identifier}
use Rattle.meaning.specs.OperatorTokens.{can_begin_type, is_dot, takes_arguments}
use Rattle.meaning.specs.WellFormed.{is_name, is_parenthesized, has_named_item, IsItem, AreItems, FitTogether, names_type}
use Rattle.meaning.specs.Grammar.{as_type, as_element, in_parentheses, SpellsExpression, SpellsForm, SpellsSignature, SpellsResult, SpellsItems, as_expression, as_constraint, IsSecond, SpellsExpressions}
use Rattle.tree_reader.specs.Reading.{Read, ◌>>=◌, stands, behind, past, steps}
use Rattle.tree_reader.specs.Reader.{Readers, as_identifier, is_no_item, name_alone, with_names, settled, read_item, read_items, read_parameters, read_signature}
use Rattle.tree_reader.specs.Claims.{AreComplete}
use Rattle.tree_reader.proofs.Taken.{step, when_true, when_false, only_true, and_true, and_false, and_not, or_left, or_right, or_false, take_gives, stands_gives, stands_other, behind_gives, next_gives, past_gives, past_other, stands_not, stands_none, next_excluded, read_identifier-complete}
use Rattle.tree_reader.proofs.Lengths.{token_shorter, expression_shorter, identifier_shorter}
use Rattle.tree_reader.proofs.Begins.{name_token, type_begins}
use Rattle.tree_reader.proofs.CompleteLists.{optional_follows}
use Rattle.tree.specs.declared.edition.Edition.{Edition}
use Rattle.tree.specs.declared.edition.Edition.TheVariants.{First, Second}
use Rattle.meaning.specs.TypeParameters.{is_no_index}

-- how items are read before it is known whether one has a name
abbrev pub unsettled : Parameters → Parameters
unsettled no_parameter = no_parameter
unsettled (named_and n ellipsis t ps) = named_and n ellipsis t (unsettled ps)
unsettled (unnamed_and ellipsis t ps) = unnamed_and ellipsis t (unsettled ps)
unsettled (name_alone_and n ps) = unnamed_and false (expression_node (name_expression n.text) n.span) (unsettled ps)

unsettled_named : (ps : Parameters) → has_named_item (unsettled ps) ≡ has_named_item ps
unsettled_named no_parameter = refl
unsettled_named (named_and n ellipsis t ps) = refl
unsettled_named (unnamed_and ellipsis t ps) = unsettled_named ps
unsettled_named (name_alone_and n ps) = unsettled_named ps

no_name : (t : Expression) → is_name t ≡ false → as_identifier t ≡ None
no_name (expression_node (name_expression name) span) h = absurd (true≢false h)
no_name (expression_node (basic_literal kind) span) h = refl
no_name (expression_node _ span) h = refl

some_item : (ps : Parameters) → IsItem ps → not (is_no_item ps) ≡ true
some_item no_parameter h = absurd h
some_item (named_and n ellipsis t ps) h = refl
some_item (unnamed_and ellipsis t ps) h = refl
some_item (name_alone_and n ps) h = refl

with_names-complete : (ps : Parameters) → AreItems true ps → with_names (unsettled ps) ≡ Some ps
with_names-complete no_parameter h = refl
with_names-complete (named_and n ellipsis t ps) h = step _ (with_names-complete ps h) refl
with_names-complete (unnamed_and true t ps) h = step _ (with_names-complete ps h) refl
with_names-complete (unnamed_and false t ps) h =
    step _ (with_names-complete ps h.1) (ap (λ n. name_alone n t ps) (no_name t h.0))
with_names-complete (name_alone_and n ps) h =
    step _ (with_names-complete ps h.2) (only_true (some_item ps h.1) refl)

unsettled_same : (ps : Parameters) → AreItems false ps → unsettled ps ≡ ps
unsettled_same no_parameter h = refl
unsettled_same (named_and n ellipsis t ps) h = ap (named_and n ellipsis t) (unsettled_same ps h)
unsettled_same (unnamed_and true t ps) h = ap (unnamed_and true t) (unsettled_same ps h)
unsettled_same (unnamed_and false t ps) h = ap (unnamed_and false t) (unsettled_same ps h.1)
unsettled_same (name_alone_and n ps) h = absurd (true≢false (sym h.0))

settled_by : (ps : Parameters) (b : Bool) → has_named_item ps ≡ b → AreItems b ps → settled (unsettled ps) ≡ Some ps
settled_by ps true e h = when_true _ (unsettled_named ps ∙ e) (with_names-complete ps h)
settled_by ps false e h = when_false _ (unsettled_named ps ∙ e) (ap Some (unsettled_same ps h))

settled-complete : (ps : Parameters) → FitTogether ps → settled (unsettled ps) ≡ Some ps
settled-complete ps h = settled_by ps (has_named_item ps) refl h

-- Each item has a type, or takes that of another.
pub depth_high : (e : Expression) → 1 ≤ expression_depth e
unfolding expression_depth below_expression
depth_high (expression_node (key_value k v) span) = omega (arith, depth_high k)
depth_high (expression_node (name_expression name) span) = omega arith
depth_high (expression_node form span) = omega arith

items_deep : (named : Bool) (ps : Parameters) → IsItem ps → AreItems named ps → 1 ≤ parameters_depth ps
unfolding parameters_depth
items_deep named no_parameter i h = absurd i
items_deep named (named_and n ellipsis t ps) i h = omega (arith, depth_high t)
items_deep named (unnamed_and ellipsis t ps) i h = omega (arith, depth_high t)
items_deep named (name_alone_and n ps) i h = items_deep named ps h.1 h.2

-- what follows an item
abbrev ends_item : TokenKind → Bool
ends_item Comma = true
ends_item RightParenthesis = true
ends_item _ = false

end_begins_no_type : (k : TokenKind) → (not (ends_item k) || not (can_begin_type k)) ≡ true
end_begins_no_type identifier_kind = refl
end_begins_no_type _ = refl

end_is_no_dot : (k : TokenKind) → (not (ends_item k) || not (is_dot k)) ≡ true
end_is_no_dot identifier_kind = refl
end_is_no_dot _ = refl

end_takes_none : (edition : Edition) (k : TokenKind) → (not (ends_item k) || not (takes_arguments edition k)) ≡ true
end_takes_none First k = or_right (not (ends_item k)) refl
end_takes_none Second identifier_kind = refl
end_takes_none Second _ = refl

expression_is_no_type : (k : TokenKind) → (not (begins_expression k) || not (is_no_index k)) ≡ true
expression_is_no_type identifier_kind = refl
expression_is_no_type _ = refl

-- a name and a type stand here, or may
abbrev is_named : Cursor → Bool
is_named place =
    stands identifier_kind place && (stands Ellipsis (behind place) || is_next can_begin_type (behind place))

named_after : (from middle to : Cursor)
    → TakesToken identifier_kind from middle
    → stands Ellipsis middle ≡ false
    → is_next can_begin_type middle ≡ false
    → is_named from ≡ false
named_after from middle to t e h =
    and_not _ (ap (λ place. stands Ellipsis place || is_next can_begin_type place) (behind_gives t) ∙ or_false e h)

pub only_if_stands : (kind : TokenKind) (b : Bool) (from to : Cursor)
    → only_if b (token kind) from to
    → stands kind to ≡ false
    → stands kind from ≡ b
only_if_stands kind true from to t h = stands_gives t
only_if_stands kind false from to p h = ap (stands kind) p ∙ h

pub only_if_past : (kind : TokenKind) (b : Bool) (from to : Cursor)
    → only_if b (token kind) from to
    → stands kind to ≡ false
    → past kind from ≡ to
only_if_past kind true from to t h = past_gives t
only_if_past kind false from to p h = ap (past kind) p ∙ past_other kind h

module _ (text : GoText) where
  -- an instance of a name alone
  abbrev is_alone : Expression → Bool
  is_alone (expression_node (index_expression e i) span) = is_name e
  is_alone (expression_node (instance_expression e es) span) = is_name e
  is_alone (expression_node form span) = false

  -- brackets that can be an index open where an expression stands in them
  pub opens_there : (place inner : Cursor)
      → TakesToken LeftBracket place inner
      → is_next begins_expression inner ≡ true
      → opens_index place ≡ true
  opens_there place inner t h =
      and_true (stands_gives t) (ap not (ap (is_next is_no_index) (behind_gives t)
      ∙ next_excluded begins_expression is_no_index inner expression_is_no_type h))

  -- with which tokens a type begins: with no name, with one alone, with one before a dot, or as an instance of one
  abbrev Starts : Expression → Cursor → Cursor → Type 0
  Starts t from to =
      (stands identifier_kind from ≡ false) ⊎ ((m : Cursor) × TakesToken identifier_kind from m
      × ((m ≡ to) ⊎ ((stands Dot m ≡ true)
      ⊎ (IsSecond text.edition × (opens_index m ≡ true) × (is_alone t ≡ true)))))

  operand_starts : (e t : Expression) (from place inner to : Cursor)
      → names_type e ≡ true
      → SpellsExpression text as_expression e from place
      → TakesToken LeftBracket place inner
      → is_next begins_expression inner ≡ true
      → IsSecond text.edition
      → (is_name e ≡ true → is_alone t ≡ true)
      → Starts t from to
  unfolding SpellsExpression SpellsForm
  operand_starts (expression_node (name_expression name) at) t from place inner to h s bracket begins second alone =
      inr (
        s.0.0,
        s.0.1.0,
        inr (inr (
          second,
          ap opens_index s.0.2 ∙ opens_there place inner bracket begins,
          alone refl,
        )),
      )
  operand_starts (expression_node (selector_expression (expression_node (name_expression name) at) n) span) t from place inner to h s bracket begins second alone =
      let e = s.0.1.1 in
      inr (e.0.0, e.0.1.0, inr (inl (ap (stands Dot) e.0.2 ∙ stands_gives s.0.1.2.1)))
  operand_starts (expression_node (selector_expression (expression_node _ at) n) span) t from place inner to h s bracket begins second alone =
      absurd (true≢false (sym h))
  operand_starts (expression_node _ span) t from place inner to h s bracket begins second alone =
      absurd (true≢false (sym h))

  expressions_start : (es : Expressions) (from to : Cursor)
      → SpellsExpressions text as_expression es from to
      → is_next begins_expression from ≡ true
  unfolding SpellsExpressions
  expressions_start no_expression from to s = absurd s
  expressions_start (expression_and e es) from to s = expression_begins text e from s.0 s.1

  starts : (t : Expression) (from to : Cursor) → SpellsExpression text as_type t from to → Starts t from to
  unfolding SpellsExpression SpellsForm same_kind
  starts (expression_node (name_expression name) span) from to s =
      inr (s.0.0, s.0.1.0, inl (s.0.2.1.0 ∙ s.0.2.2.0))
  starts (expression_node (selector_expression (expression_node (name_expression _) _) n) span) from to s =
      let e = s.0.1.1 in
      inr (e.0.0, e.0.1.0, inr (inl (ap (stands Dot) e.0.2 ∙ stands_gives s.0.1.2.1)))
  starts (expression_node (selector_expression e n) span) from to s = absurd (true≢false (sym s.0.0))
  starts (expression_node (index_expression e i) span) from to s =
      let rule = s.0.1.1 in
      operand_starts e (expression_node (index_expression e i) span) from rule.0 rule.2.0 to s.0.0.1 rule.1 rule.2.1
      (expression_begins text i rule.2.0 rule.2.2.0 rule.2.2.1) s.0.0.0 (λ alone. alone)
  starts (expression_node (instance_expression e es) span) from to s =
      let rule = s.0.1.1.1 in
      operand_starts e (expression_node (instance_expression e es) span) from rule.0 rule.2.0 to s.0.1.0.1 rule.1
      rule.2.1 (expressions_start es rule.2.0 rule.2.2.1.0 rule.2.2.1.1) s.0.0 (λ alone. alone)
  starts (expression_node (parenthesized e) span) from to s = inl (stands_other s.0.1 identifier_kind refl)
  starts (expression_node (star_expression e) span) from to s = inl (stands_other s.0.1.1 identifier_kind refl)
  starts (expression_node (array_type n t) span) from to s = inl (stands_other s.0.1.1 identifier_kind refl)
  starts (expression_node (ellipsis_array_type t) span) from to s = inl (stands_other s.0.1.1 identifier_kind refl)
  starts (expression_node (slice_type t) span) from to s = inl (stands_other s.0.1.1 identifier_kind refl)
  starts (expression_node (map_type k t) span) from to s = inl (stands_other s.0.1 identifier_kind refl)
  starts (expression_node (channel_type Both t) span) from to s = inl (stands_other s.0.1.1 identifier_kind refl)
  starts (expression_node (channel_type Send t) span) from to s = inl (stands_other s.0.1.1 identifier_kind refl)
  starts (expression_node (channel_type receive_only t) span) from to s =
      inl (stands_other s.0.1.1 identifier_kind refl)
  starts (expression_node (function_type signature) span) from to s = inl (stands_other s.0.1 identifier_kind refl)
  starts (expression_node (struct_type fs) span) from to s = inl (stands_other s.0.1 identifier_kind refl)
  starts (expression_node (interface_type fs) span) from to s = inl (stands_other s.0.1 identifier_kind refl)
  starts (expression_node (key_value k v) span) from to s = let p : as_type ≡ as_element = s.0.0 in cc
  starts (expression_node (unary_expression Tilde e) span) from to s = let p : as_type ≡ as_constraint = s.0.0 in cc
  starts (expression_node form span) from to s = absurd s.0.0

  -- a name with brackets behind it stands here, in the second edition
  abbrev pub is_indexed : Cursor → Bool
  is_indexed place =
      is_second text.edition && (stands identifier_kind place && opens_index (behind place))

  dot_alone : (other : TokenKind) (place : Cursor)
      → same_kind Dot other ≡ false
      → stands Dot place ≡ true
      → stands other place ≡ false
  dot_alone other place e h = stands_other (stands-sound Dot place h) other e

  -- a type that begins with another token than a name before a type
  type_is_named : (t : Expression) (from to : Cursor)
      → SpellsExpression text as_type t from to
      → is_indexed from ≡ false
      → is_next ends_item to ≡ true
      → is_named from ≡ false
  unfolding same_kind
  type_is_named t from to s b h =
      elim (starts t from to s) [
        | inl none ↦ and_false _ none
        | inr x ↦ elim x.2 [
          | inl p ↦ named_after from x.0 to x.1 (ap (stands Ellipsis) p ∙ stands_not ends_item Ellipsis to refl h)
              (ap (is_next can_begin_type) p ∙ next_excluded ends_item can_begin_type to end_begins_no_type h)
          | inr y ↦ elim y [
            | inl dot ↦ named_after from x.0 to x.1 (dot_alone Ellipsis x.0 refl dot)
                (next_gives (stands-sound Dot x.0 dot) can_begin_type)
            | inr z ↦ absurd (true≢false (sym (and_true (second_true text.edition z.0)
                (and_true (stands_gives x.1) (ap opens_index (behind_gives x.1) ∙ z.1))) ∙ b))
          ]
        ]
      ]

  -- of other types than instances of a name alone none is indexed
  not_alone : (t : Expression) (from to : Cursor)
      → SpellsExpression text as_type t from to
      → is_alone t ≡ false
      → stands LeftBracket to ≡ false
      → is_indexed from ≡ false
  unfolding same_kind
  not_alone t from to s alone h =
      and_not (is_second text.edition) (elim (starts t from to s) [
        | inl none ↦ and_false _ none
        | inr x ↦ elim x.2 [
          | inl p ↦ and_not _ (ap opens_index (behind_gives x.1 ∙ p) ∙ and_false _ h)
          | inr y ↦ elim y [
            | inl dot ↦ and_not _ (ap opens_index (behind_gives x.1) ∙ and_false _ (dot_alone LeftBracket x.0 refl dot))
            | inr z ↦ absurd (true≢false (sym z.2 ∙ alone))
          ]
        ]
      ])

  -- a type that does not stand in brackets
  bare_type : (t : Expression) (from to : Cursor)
      → is_parenthesized t ≡ false
      → SpellsExpression text as_type t from to
      → stands LeftParenthesis from ≡ false
  unfolding SpellsExpression SpellsForm same_kind
  bare_type (expression_node (name_expression name) span) from to h s = stands_other s.0.1.0 LeftParenthesis refl
  bare_type (expression_node (selector_expression e n) span) from to h s =
      let name = name_token text e from s.0.1.0 s.0.0 s.0.1.1 in stands_other name.1 LeftParenthesis refl
  bare_type (expression_node (index_expression e i) span) from to h s =
      stands_other (first_name text e from s.0.1.1.0 s.0.0.1 s.0.1.1.1).1 LeftParenthesis refl
  bare_type (expression_node (instance_expression e es) span) from to h s =
      stands_other (first_name text e from s.0.1.1.1.0 s.0.1.0.1 s.0.1.1.1.1).1 LeftParenthesis refl
  bare_type (expression_node (unary_expression Tilde e) span) from to h s =
      let p : as_type ≡ as_constraint = s.0.0 in cc
  bare_type (expression_node (parenthesized e) span) from to h s = absurd (true≢false h)
  bare_type (expression_node (star_expression e) span) from to h s = stands_other s.0.1.1 LeftParenthesis refl
  bare_type (expression_node (array_type n t) span) from to h s = stands_other s.0.1.1 LeftParenthesis refl
  bare_type (expression_node (ellipsis_array_type t) span) from to h s = stands_other s.0.1.1 LeftParenthesis refl
  bare_type (expression_node (slice_type t) span) from to h s = stands_other s.0.1.1 LeftParenthesis refl
  bare_type (expression_node (map_type k t) span) from to h s = stands_other s.0.1 LeftParenthesis refl
  bare_type (expression_node (channel_type Both t) span) from to h s = stands_other s.0.1.1 LeftParenthesis refl
  bare_type (expression_node (channel_type Send t) span) from to h s = stands_other s.0.1.1 LeftParenthesis refl
  bare_type (expression_node (channel_type receive_only t) span) from to h s = stands_other s.0.1.1 LeftParenthesis refl
  bare_type (expression_node (function_type signature) span) from to h s = stands_other s.0.1 LeftParenthesis refl
  bare_type (expression_node (struct_type fs) span) from to h s = stands_other s.0.1 LeftParenthesis refl
  bare_type (expression_node (interface_type fs) span) from to h s = stands_other s.0.1 LeftParenthesis refl
  bare_type (expression_node (key_value k v) span) from to h s = let p : as_type ≡ as_element = s.0.0 in cc
  bare_type (expression_node form span) from to h s = absurd s.0.0

  -- a name that stands as a type
  name_type : (n : Identifier) (from to : Cursor)
      → identifier text n from to
      → is_next is_dot to ≡ false
      → is_next (takes_arguments text.edition) to ≡ false
      → SpellsExpression text as_type (expression_node (name_expression n.text) n.span) from to
  unfolding SpellsExpression SpellsForm
  name_type n from to s h none = ((to, s.0, (to, (refl, h), (refl, none))), s.1, s.2)

  name_depth : (n : Identifier) → expression_depth (expression_node (name_expression n.text) n.span) ≡ 1
  unfolding expression_depth below_expression
  name_depth n = refl

  no_instance : (t : Expression) (from to : Cursor)
      → SpellsExpression text as_type t from to
      → is_next can_begin_type to ≡ false
      → is_alone t ≡ false
      → is_indexed from ≡ true
      → ⊥
  no_instance t from to s none alone h =
      true≢false (sym h ∙ not_alone t from to s alone (stands_none can_begin_type LeftBracket to refl none))

  items_follow : (test : TokenKind → Bool) (ps : Parameters) (from close to : Cursor)
      → test Comma ≡ true
      → test RightParenthesis ≡ true
      → SpellsItems text false ps from close
      → TakesToken RightParenthesis close to
      → is_next test from ≡ true
  unfolding SpellsItems
  items_follow test no_parameter from close to c e s t =
      optional_follows test Comma from close c s (next_gives t test ∙ e)
  items_follow test (named_and n ellipsis kind ps) from close to c e s t = next_gives s.1 test ∙ c
  items_follow test (unnamed_and ellipsis kind ps) from close to c e s t = next_gives s.1 test ∙ c
  items_follow test (name_alone_and n ps) from close to c e s t = next_gives s.1 test ∙ c

  pub moved_name : (n : Identifier) (from other to : Cursor)
      → from ≡ other
      → identifier text n other to
      → identifier text n from to
  moved_name n from other to p s = subst (λ place. identifier text n place to) (sym p) s

  -- items behind a comma are items
  record Again (ps : Parameters) (from close : Cursor) : Type 0 where
    place : Cursor
    comma : TakesToken Comma from place
    spelled : SpellsItems text true ps place close

  again : (ps : Parameters) (from close : Cursor)
      → IsItem ps
      → SpellsItems text false ps from close
      → Again ps from close
  unfolding SpellsItems
  again no_parameter from close i s = absurd i
  again (named_and n ellipsis t ps) from close i s = record { place = s.0; comma = s.1; spelled = (s.0, refl, s.2) }
  again (unnamed_and ellipsis t ps) from close i s = record { place = s.0; comma = s.1; spelled = (s.0, refl, s.2) }
  again (name_alone_and n ps) from close i s = record { place = s.0; comma = s.1; spelled = (s.0, refl, s.2) }

  module _ (r : Readers) (below : ℕ) (complete : AreComplete text below r) where
    -- brackets that can be an index open no type but an array
    opens_none : (t : Expression) (from to : Cursor)
        → SpellsExpression text as_type t from to
        → stands LeftBracket from ≡ false
        → opens_index from ≡ true
        → ⊥
    opens_none t from to s none h = true≢false (sym (and_parts (stands LeftBracket from) _ h).0 ∙ none)

    -- a name and the type behind it, where this begins with brackets that can be an index
    pub array_there : (n : Identifier) (t : Expression) (from middle to : Cursor)
        → identifier text n from middle
        → SpellsExpression text as_type t middle to
        → opens_index middle ≡ true
        → expression_depth t ≤ below
        → read_indexed text r from ≡ Some ((Some n, t), to)
    unfolding SpellsExpression SpellsForm same_kind
    array_there n (expression_node (array_type m t) span) from middle to name s h d =
        read_indexed-array text r below complete n m t span from middle to name s d
    array_there n (expression_node (slice_type t) span) from middle to name s h d =
        let inner = s.0.1 in
        let close : TakesToken RightBracket inner.0 s.0.0 =
        subst (λ place. TakesToken RightBracket place s.0.0) (sym inner.2.1) inner.2.2 in
        let no_index = ap (is_next is_no_index) (behind_gives inner.1) ∙ next_gives close is_no_index in
        absurd (true≢false (sym (and_parts (stands LeftBracket middle) _ h).1 ∙ ap not no_index))
    array_there n (expression_node (ellipsis_array_type t) span) from middle to name s h d =
        let inner = s.0.1 in
        let no_index = ap (is_next is_no_index) (behind_gives inner.1) ∙ next_gives inner.2.1 is_no_index in
        absurd (true≢false (sym (and_parts (stands LeftBracket middle) _ h).1 ∙ ap not no_index))
    array_there n (expression_node (map_type k t) span) from middle to name s h d =
        absurd (opens_none (expression_node (map_type k t) span) middle to s (stands_other s.0.1 LeftBracket refl) h)
    array_there n (expression_node (channel_type Both t) span) from middle to name s h d =
        absurd (opens_none (expression_node (channel_type Both t) span) middle to s (stands_other s.0.1.1 LeftBracket refl) h)
    array_there n (expression_node (channel_type Send t) span) from middle to name s h d =
        absurd (opens_none (expression_node (channel_type Send t) span) middle to s (stands_other s.0.1.1 LeftBracket refl) h)
    array_there n (expression_node (channel_type receive_only t) span) from middle to name s h d =
        absurd (opens_none (expression_node (channel_type receive_only t) span) middle to s
        (stands_other s.0.1.1 LeftBracket refl) h)
    array_there n (expression_node (parenthesized t) span) from middle to name s h d =
        absurd (opens_none (expression_node (parenthesized t) span) middle to s (stands_other s.0.1 LeftBracket refl) h)
    array_there n (expression_node (star_expression t) span) from middle to name s h d =
        absurd (opens_none (expression_node (star_expression t) span) middle to s (stands_other s.0.1.1 LeftBracket refl) h)
    array_there n (expression_node (function_type signature) span) from middle to name s h d =
        absurd (opens_none (expression_node (function_type signature) span) middle to s
        (stands_other s.0.1 LeftBracket refl) h)
    array_there n (expression_node (struct_type fs) span) from middle to name s h d =
        absurd (opens_none (expression_node (struct_type fs) span) middle to s (stands_other s.0.1 LeftBracket refl) h)
    array_there n (expression_node (interface_type fs) span) from middle to name s h d =
        absurd (opens_none (expression_node (interface_type fs) span) middle to s (stands_other s.0.1 LeftBracket refl) h)
    array_there n (expression_node (name_expression x) span) from middle to name s h d =
        absurd (opens_none (expression_node (name_expression x) span) middle to s
        (stands_other s.0.1.0 LeftBracket refl) h)
    array_there n (expression_node (selector_expression e x) span) from middle to name s h d =
        let first = name_token text e middle s.0.1.0 s.0.0 s.0.1.1 in
        absurd (opens_none (expression_node (selector_expression e x) span) middle to s
        (stands_other first.1 LeftBracket refl) h)
    array_there n (expression_node (index_expression e i) span) from middle to name s h d =
        let first = first_name text e middle s.0.1.1.0 s.0.0.1 s.0.1.1.1 in
        absurd (opens_none (expression_node (index_expression e i) span) middle to s
        (stands_other first.1 LeftBracket refl) h)
    array_there n (expression_node (instance_expression e es) span) from middle to name s h d =
        let first = first_name text e middle s.0.1.1.1.0 s.0.1.0.1 s.0.1.1.1.1 in
        absurd (opens_none (expression_node (instance_expression e es) span) middle to s
        (stands_other first.1 LeftBracket refl) h)
    array_there n (expression_node (key_value k v) span) from middle to name s h d =
        let p : as_type ≡ as_element = s.0.0 in cc
    array_there n (expression_node (unary_expression Tilde e) span) from middle to name s h d =
        let p : as_type ≡ as_constraint = s.0.0 in cc
    array_there n (expression_node form span) from middle to name s h d = absurd s.0.0

    -- a type that begins with a name and brackets is an instance
    pub instance_there : (t : Expression) (from to : Cursor)
        → SpellsExpression text as_type t from to
        → is_next can_begin_type to ≡ false
        → is_indexed from ≡ true
        → expression_depth t ≤ below
        → read_indexed text r from ≡ Some ((None, t), to)
    instance_there (expression_node (index_expression (expression_node (name_expression name) at) i) span) from to s none h d =
        read_indexed-index text r below complete name i at span from to s none d
    instance_there (expression_node (instance_expression (expression_node (name_expression name) at) es) span) from to s none h d =
        read_indexed-instance text r below complete name es at span from to s none d
    instance_there (expression_node (index_expression (expression_node form at) i) span) from to s none h d =
        absurd (no_instance (expression_node (index_expression (expression_node form at) i) span) from to s none refl h)
    instance_there (expression_node (instance_expression (expression_node form at) es) span) from to s none h d =
        absurd (no_instance (expression_node (instance_expression (expression_node form at) es) span) from to s none refl h)
    instance_there (expression_node form span) from to s none h d =
        absurd (no_instance (expression_node form span) from to s none refl h)

    read_item-named : (n : Identifier) (ellipsis : Bool) (t : Expression) (from middle start to : Cursor)
        → identifier text n from middle
        → only_if ellipsis (token Ellipsis) middle start
        → SpellsExpression text as_type t start to
        → expression_depth t ≤ below
        → read_item text r from ≡ Some (named_and n ellipsis t, to)
    unfolding read_item same_kind
    read_item-named n ellipsis t from middle start to name dots s d = by_test (is_indexed from) refl where
      no_dots : stands Ellipsis start ≡ false
      no_dots = stands_not can_begin_type Ellipsis start refl (type_begins text t start to s)

      follows : (b : Bool)
          → only_if b (token Ellipsis) middle start
          → (stands Ellipsis middle || is_next can_begin_type middle) ≡ true
      follows true h = or_left _ (stands_gives h)
      follows false h = or_right _ (ap (is_next can_begin_type) h ∙ type_begins text t start to s)

      indexed_type : (b : Bool)
          → only_if b (token Ellipsis) middle start
          → opens_index middle ≡ true
          → (read_indexed text r from ≡ Some ((Some n, t), to)) × (b ≡ false)
      indexed_type true h opens =
          absurd (true≢false (sym (and_parts (stands LeftBracket middle) _ opens).0 ∙ stands_other h LeftBracket refl))
      indexed_type false p opens =
          let spelled = subst (λ (c : Cursor). SpellsExpression text as_type t c to) (sym p) s in
          (array_there n t from middle to name spelled opens d, refl)

      by_test : (b : Bool) → is_indexed from ≡ b → read_item text r from ≡ Some (named_and n ellipsis t, to)
      by_test true h =
          let places = (and_parts (is_second text.edition) _ h).1 in
          let opens = ap opens_index (sym (behind_gives name.0.0)) ∙ (and_parts (stands identifier_kind from) _ places).1 in
          let found = indexed_type ellipsis dots opens in
          when_true _ h (step _ found.0 (ap (λ b. Some (named_and n b t, to)) (sym found.1)))
      by_test false h =
          when_false _ h
          (when_true _ (and_true (stands_gives name.0.0)
          (ap (λ place. stands Ellipsis place || is_next can_begin_type place) (behind_gives name.0.0)
          ∙ follows ellipsis dots))
          (step _ (read_identifier-complete text n from middle name)
          (step _ (ap r.read_type (only_if_past Ellipsis ellipsis middle start dots no_dots)
          ∙ complete.type start to t s d)
          (ap (λ b. Some (named_and n b t, to)) (only_if_stands Ellipsis ellipsis middle start dots no_dots)))))

    read_item-unnamed : (ellipsis : Bool) (t : Expression) (from start to : Cursor)
        → only_if ellipsis (token Ellipsis) from start
        → SpellsExpression text as_type t start to
        → expression_depth t ≤ below
        → is_next ends_item to ≡ true
        → read_item text r from ≡ Some (unnamed_and ellipsis t, to)
    unfolding read_item same_kind
    read_item-unnamed ellipsis t from start to dots s d ends = by_test (is_indexed from) refl where
      no_dots : stands Ellipsis start ≡ false
      no_dots = stands_not can_begin_type Ellipsis start refl (type_begins text t start to s)

      unnamed : (b : Bool) → only_if b (token Ellipsis) from start → is_indexed from ≡ false → is_named from ≡ false
      unnamed true p h = and_false _ (stands_other p identifier_kind refl)
      unnamed false p h = ap is_named p ∙ type_is_named t start to s (ap is_indexed (sym p) ∙ h) ends

      indexed_type : (b : Bool)
          → only_if b (token Ellipsis) from start
          → is_indexed from ≡ true
          → (read_indexed text r from ≡ Some ((None, t), to)) × (b ≡ false)
      indexed_type true p h =
          let places = (and_parts (is_second text.edition) _ h).1 in
          absurd (true≢false (sym (and_parts (stands identifier_kind from) _ places).0 ∙ stands_other p identifier_kind refl))
      indexed_type false p h =
          let spelled = subst (λ (c : Cursor). SpellsExpression text as_type t c to) (sym p) s in
          (instance_there t from to spelled (next_excluded ends_item can_begin_type to end_begins_no_type ends) h d, refl)

      by_test : (b : Bool) → is_indexed from ≡ b → read_item text r from ≡ Some (unnamed_and ellipsis t, to)
      by_test true h =
          let found = indexed_type ellipsis dots h in
          when_true _ h (step _ found.0 (ap (λ b. Some (unnamed_and b t, to)) (sym found.1)))
      by_test false h =
          when_false _ h
          (when_false _ (unnamed ellipsis dots h)
          (step _ (ap r.read_type (only_if_past Ellipsis ellipsis from start dots no_dots)
          ∙ complete.type start to t s d)
          (ap (λ b. Some (unnamed_and b t, to)) (only_if_stands Ellipsis ellipsis from start dots no_dots))))

    -- what follows an item
    abbrev go_on_items : ℕ → (Parameters → Parameters) → Cursor → Read Parameters
    go_on_items n item place =
        if stands Comma place then (do
          more ← read_items text r n (behind place)
          Some (item more.0, more.1)
        ) else Some (item no_parameter, place)

    abbrev ItemsAreRead : Bool → ℕ → Cursor → Type 0
    ItemsAreRead named n close =
        (ps : Parameters) (from : Cursor) → AreItems named ps → SpellsItems text true ps from close
        → parameters_depth ps ≤ below → length from.left < n → read_items text r n from ≡ Some (unsettled ps, close)

    none_follow : (named : Bool) (n : ℕ) (item : Parameters → Parameters) (from close to : Cursor)
        → ItemsAreRead named n close
        → optional (token Comma) from close
        → TakesToken RightParenthesis close to
        → length from.left ≤ n
        → go_on_items n item from ≡ Some (item no_parameter, close)
    unfolding SpellsItems parameters_depth same_kind
    none_follow named n item from close to more (inl p) t short =
        when_false _ (ap (stands Comma) p ∙ stands_other t Comma refl) (ap (λ place. Some (item no_parameter, place)) p)
    none_follow named n item from close to more (inr c) t short =
        let fewer : length close.left < n = omega (arith, token_shorter Comma from close c) in
        when_true _ (stands_gives c)
        (step _ (ap (read_items text r n) (behind_gives c) ∙ more no_parameter close tt refl
        (omega arith) fewer) refl)

    some_follow : (named : Bool) (n : ℕ) (item : Parameters → Parameters) (ps : Parameters) (from close to : Cursor)
        → ItemsAreRead named n close
        → IsItem ps
        → AreItems named ps
        → SpellsItems text false ps from close
        → parameters_depth ps ≤ below
        → length from.left ≤ n
        → go_on_items n item from ≡ Some (item (unsettled ps), close)
    some_follow named n item ps from close to more i h s d short =
        let a : Again ps from close = again ps from close i s in
        let fewer : length a.place.left < n = omega (arith, token_shorter Comma from a.place a.comma) in
        when_true _ (stands_gives a.comma)
        (step _ (ap (read_items text r n) (behind_gives a.comma) ∙ more ps a.place h a.spelled d fewer) refl)

    after_item : (named : Bool) (n : ℕ) (item : Parameters → Parameters) (ps : Parameters) (from close to : Cursor)
        → ItemsAreRead named n close
        → AreItems named ps
        → SpellsItems text false ps from close
        → TakesToken RightParenthesis close to
        → parameters_depth ps ≤ below
        → length from.left ≤ n
        → go_on_items n item from ≡ Some (item (unsettled ps), close)
    unfolding SpellsItems
    after_item named n item no_parameter from close to more h s t d short =
        none_follow named n item from close to more s t short
    after_item named n item (named_and x ellipsis kind ps) from close to more h s t d short =
        some_follow named n item (named_and x ellipsis kind ps) from close to more tt h s d short
    after_item named n item (unnamed_and ellipsis kind ps) from close to more h s t d short =
        some_follow named n item (unnamed_and ellipsis kind ps) from close to more tt h s d short
    after_item named n item (name_alone_and x ps) from close to more h s t d short =
        some_follow named n item (name_alone_and x ps) from close to more tt h s d short

    -- one item and those that follow
    item_first : (named : Bool) (n : ℕ) (item : Parameters → Parameters) (ps : Parameters)
        (from place close to : Cursor)
        → read_item text r from ≡ Some (item, place)
        → stands RightParenthesis from ≡ false
        → ItemsAreRead named n close
        → AreItems named ps
        → SpellsItems text false ps place close
        → TakesToken RightParenthesis close to
        → parameters_depth ps ≤ below
        → length place.left ≤ n
        → read_items text r (suc n) from ≡ Some (item (unsettled ps), close)
    unfolding read_items
    item_first named n item ps from place close to read begins more h s t d short =
        when_false _ begins (step _ read (after_item named n item ps place close to more h s t d short))

    others_fit : (named ellipsis : Bool) (t : Expression) (ps : Parameters)
        → AreItems named (unnamed_and ellipsis t ps)
        → AreItems named ps
    others_fit named true t ps h = h
    others_fit named false t ps h = h.1

    dots_longest : (ellipsis : Bool) (from to : Cursor)
        → only_if ellipsis (token Ellipsis) from to
        → length to.left ≤ length from.left
    dots_longest true from to s = omega (arith, token_shorter Ellipsis from to s)
    dots_longest false from to s = omega (arith, ap (λ (place : Cursor). length place.left) s)

    no_closing : (ellipsis : Bool) (t : Expression) (from start to : Cursor)
        → only_if ellipsis (token Ellipsis) from start
        → SpellsExpression text as_type t start to
        → stands RightParenthesis from ≡ false
    unfolding same_kind
    no_closing true t from start to dots s = stands_other dots RightParenthesis refl
    no_closing false t from start to dots s =
        ap (stands RightParenthesis) dots ∙ stands_not can_begin_type RightParenthesis start refl
        (type_begins text t start to s)

    moved_dots : (ellipsis : Bool) (from other to : Cursor)
        → from ≡ other
        → only_if ellipsis (token Ellipsis) other to
        → only_if ellipsis (token Ellipsis) from to
    moved_dots ellipsis from other to p s = subst (λ place. only_if ellipsis (token Ellipsis) place to) (sym p) s

    pub read_items-complete : (named : Bool) (n : ℕ) (ps : Parameters) (from close to : Cursor)
        → AreItems named ps
        → SpellsItems text true ps from close
        → TakesToken RightParenthesis close to
        → parameters_depth ps ≤ below
        → length from.left < n
        → read_items text r n from ≡ Some (unsettled ps, close)
    unfolding read_items SpellsItems parameters_depth same_kind
    read_items-complete named zero ps from close to h s t d short = absurd (omega arith)
    read_items-complete named (suc n) no_parameter from close to h p t d short =
        when_true _ (ap (stands RightParenthesis) p ∙ stands_gives t) (λ i. Some (no_parameter, p i))
    read_items-complete named (suc n) (named_and x ellipsis kind ps) from close to h s t d short =
        let name : identifier text x from s.2.0 = moved_name x from s.0 s.2.0 s.1 s.2.1 in
        let dots = s.2.2.1 in
        let place : Cursor = s.2.2.2.0 in
        let spelled = s.2.2.2.1 in
        let fewer : length place.left ≤ n =
        omega (
          arith,
          identifier_shorter text x from s.2.0 name,
          dots_longest ellipsis s.2.0 s.2.2.0 dots,
          expression_shorter text as_type kind s.2.2.0 place spelled,
        ) in
        item_first named n (named_and x ellipsis kind) ps from place close to
        (read_item-named x ellipsis kind from s.2.0 s.2.2.0 place name dots spelled (omega arith))
        (stands_other name.0.0 RightParenthesis refl)
        (λ others at fit rest deep less. read_items-complete named n others at close to fit rest t deep less) h
        s.2.2.2.2 t (omega arith) fewer
    read_items-complete named (suc n) (unnamed_and ellipsis kind ps) from close to h s t d short =
        let dots : only_if ellipsis (token Ellipsis) from s.2.0 = moved_dots ellipsis from s.0 s.2.0 s.1 s.2.1 in
        let place : Cursor = s.2.2.0 in
        let spelled = s.2.2.1 in
        let follows : is_next ends_item place ≡ true = items_follow ends_item ps place close to refl refl s.2.2.2 t in
        let fewer : length place.left ≤ n =
        omega (
          arith,
          dots_longest ellipsis from s.2.0 dots,
          expression_shorter text as_type kind s.2.0 place
              spelled,
        ) in
        item_first named n (unnamed_and ellipsis kind) ps from place close to
        (read_item-unnamed ellipsis kind from s.2.0 place dots spelled (omega arith) follows)
        (no_closing ellipsis kind from s.2.0 place dots spelled)
        (λ others at fit rest deep less. read_items-complete named n others at close to fit rest t deep less)
        (others_fit named ellipsis kind ps h) s.2.2.2 t (omega arith) fewer
    read_items-complete named (suc n) (name_alone_and x ps) from close to h s t d short =
        let name : identifier text x from s.2.0 = moved_name x from s.0 s.2.0 s.1 s.2.1 in
        let place : Cursor = s.2.0 in
        let follows : is_next ends_item place ≡ true = items_follow ends_item ps place close to refl refl s.2.2 t in
        let none = next_excluded ends_item (takes_arguments text.edition) place (end_takes_none text.edition) follows in
        let spelled = name_type x from place name (next_excluded ends_item is_dot place end_is_no_dot follows) none in
        let deep : 1 ≤ parameters_depth ps = items_deep named ps h.1 h.2 in
        let shallow : expression_depth (expression_node (name_expression x.text) x.span) ≤ below =
        omega (arith, name_depth x) in
        let fewer : length place.left ≤ n = omega (arith, identifier_shorter text x from place name) in
        item_first named n (unnamed_and false (expression_node (name_expression x.text) x.span)) ps from place close
        to (read_item-unnamed false
        (expression_node (name_expression x.text) x.span) from from place refl spelled shallow follows)
        (stands_other name.0.0 RightParenthesis refl)
        (λ others at fit rest deep_others less. read_items-complete named n others at close to fit rest t
        deep_others less) h.2 s.2.2 t (omega arith) fewer

    pub read_parameters-complete : (ps : Parameters) (from to : Cursor)
        → FitTogether ps
        → in_parentheses (SpellsItems text true ps) from to
        → parameters_depth ps ≤ below
        → read_parameters text r from ≡ Some (ps, to)
    unfolding read_parameters
    read_parameters-complete ps from to h s d =
        step _ (take_gives s.1)
        (step _ (read_items-complete (has_named_item ps) (steps s.0) ps s.0 s.2.0 to h s.2.1 s.2.2 d (omega arith))
        (step _ (take_gives s.2.2)
        (step _ (settled-complete ps h) refl)))

    pub read_signature-complete : (signature : Signature) (from to : Cursor)
        → SpellsSignature text signature from to
        → signature_depth signature ≤ below
        → read_signature text r from ≡ Some (signature, to)
    unfolding read_signature SpellsSignature SpellsResult signature_depth parameters_depth
    read_signature-complete (signature_of ps rs true) from to s d =
        step _ (read_parameters-complete ps from s.1.0 s.0 s.1.1 (omega arith))
        (when_true _ (stands_gives s.1.2.1.1)
        (step _ (read_parameters-complete rs s.1.0 to s.1.2.0 s.1.2.1 (omega arith)) refl))
    read_signature-complete (signature_of ps no_parameter false) from to s d =
        let place : Cursor = s.1.0 in
        let end : place ≡ to = s.1.2.0 in
        step _ (read_parameters-complete ps from place s.0 s.1.1 (omega arith))
        (when_false _ (stands_none can_begin_type LeftParenthesis place refl s.1.2.1)
        (when_false _ s.1.2.1 (ap (λ at. Some (signature_of ps no_parameter false, at)) end)))
    read_signature-complete (signature_of ps (unnamed_and ellipsis t others) false) from to s d =
        let place : Cursor = s.1.0 in
        let no_dots : ellipsis ≡ false = s.1.2.0 in
        let alone : others ≡ no_parameter = s.1.2.1.0 in
        let spelled = s.1.2.1.1.1 in
        step _ (read_parameters-complete ps from place s.0 s.1.1 (omega arith))
        (when_false _ (bare_type t place to s.1.2.1.1.0 spelled)
        (when_true _ (type_begins text t place to spelled)
        (step _ (complete.type place to t spelled (omega arith))
        (λ i. Some (signature_of ps (unnamed_and (sym no_dots i) t (sym alone i)) false, to)))))
    read_signature-complete (signature_of ps (named_and n ellipsis t others) false) from to s d = absurd s.1.2
    read_signature-complete (signature_of ps (name_alone_and n others) false) from to s d = absurd s.1.2
