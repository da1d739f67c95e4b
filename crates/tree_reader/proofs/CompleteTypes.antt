-- The reader gives each type that is spelled.
use Rattle.std.specs.Prelude.{◌&&◌}
use Rattle.tree.specs.declared.operator.UnaryOperator.TheVariants.{Tilde}
use Rattle.tree_reader.specs.Reading.{Read}
use Rattle.tree_reader.specs.Reader.{read_index, is_second, read_type_arguments}
use Rattle.tree_reader.proofs.CompleteIndexes.{second_true, read_index-complete, read_instance-complete}
use Rattle.std.proofs.Common.{◌≡◌, ℕ, suc, ◌≤◌, Bool, true, false, true≢false, List, Some, refl, sym, subst, ap, ◌∙◌, arith}
use Rattle.lexer.specs.Spelling.{same_kind}
use Rattle.lexer.specs.declared.token.TokenKind.{TokenKind}
use Rattle.lexer.specs.declared.token.TokenKind.TheVariants.{Identifier as identifier_kind, ChanKeyword, FuncKeyword, InterfaceKeyword, MapKeyword, StructKeyword, Star, Arrow, Ellipsis, LeftParenthesis, LeftBracket, RightBracket, Dot}
use Rattle.tree.specs.declared.span.Span.{Span}
use Rattle.tree.specs.declared.operator.ChanDirection.TheVariants.{Both, Send, Receive as receive_only}
use Rattle.tree.specs.Syntax.{Identifier, Expression, expression_node, name_expression, key_value, parenthesized, selector_expression, star_expression, array_type, ellipsis_array_type, slice_type, map_type, channel_type, function_type, struct_type, interface_type, Fields, index_expression, instance_expression, unary_expression}
use Rattle.tree.specs.Depth.{expression_depth, below_expression}
use Rattle.meaning.specs.Cursor.{GoText, Cursor, TakesToken, is_next, identifier, word, start_at}
use Rattle.meaning.specs.OperatorTokens.{is_dot, is_arrow, takes_arguments}
use Rattle.meaning.specs.Grammar.{Position, as_type, as_expression, as_value, as_element, in_braces, end_of_type, Owner, of_struct, of_interface, SpellsExpression, SpellsForm, SpellsSignature, SpellsFields, as_constraint, IsSecond}
use Rattle.tree_reader.specs.Reading.{stands, take, spanned, word_between, read_identifier}
use Rattle.tree_reader.specs.Reader.{Readers, read_signature, read_braced_fields, read_bracket_type, read_map_type, read_channel_type, read_literal_type, around, read_selector, read_named_type, read_type_of}
use Rattle.tree_reader.specs.Claims.{AreComplete}
use Rattle.tree_reader.proofs.Taken.{step, when_true, when_false, only_true, take_gives, stands_gives, stands_other, behind_gives, next_gives, stands_not, stands_none, span_is, node_is, read_identifier-complete, and_true}
use Rattle.tree_reader.proofs.Begins.{begins_expression, expression_begins}
use Rattle.tree_reader.proofs.CompleteLists.{ends_expression, read_any-complete}
use Rattle.tree_reader.proofs.CompleteSignatures.{read_signature-complete}
use Rattle.std.proofs.lemmas.Bool.{le-leb}
use Rattle.tree_reader.proofs.CompleteFields.{read_braced_fields-complete}
use Rattle.tree.specs.declared.edition.Edition.{Edition}
use Rattle.tree.specs.declared.edition.Edition.TheVariants.{First, Second}
use Rattle.meaning.specs.WellFormed.{is_name, names_type, is_instance, is_type}

-- a type that begins with a bracket or a keyword, but for `func`
abbrev pub is_literal_type : Expression → Bool
is_literal_type (expression_node (array_type n t) span) = true
is_literal_type (expression_node (ellipsis_array_type t) span) = true
is_literal_type (expression_node (slice_type t) span) = true
is_literal_type (expression_node (map_type k t) span) = true
is_literal_type (expression_node (channel_type receive_only t) span) = false
is_literal_type (expression_node (channel_type direction t) span) = true
is_literal_type (expression_node (struct_type fs) span) = true
is_literal_type (expression_node (interface_type fs) span) = true
is_literal_type (expression_node form span) = false

abbrev pub begins_literal_type : TokenKind → Bool
begins_literal_type LeftBracket = true
begins_literal_type MapKeyword = true
begins_literal_type ChanKeyword = true
begins_literal_type StructKeyword = true
begins_literal_type InterfaceKeyword = true
begins_literal_type _ = false

pub end_same : (position : Position) (from to : Cursor) → end_of_type position from to → from ≡ to
end_same as_type from to p = p
end_same as_expression from to s = s.0
end_same as_value from to s = s.0
end_same as_element from to s = s.0
end_same as_constraint from to s = s.0

-- no brackets of an instance stand there
no_brackets : (edition : Edition) (place : Cursor)
    → is_next (takes_arguments edition) place ≡ false
    → (is_second edition && stands LeftBracket place) ≡ false
no_brackets First place h = refl
no_brackets Second place h = stands_none (takes_arguments Second) LeftBracket place refl h

module _ (text : GoText) where
  -- a type up to where the type ends that it is the last part of
  to_end : (position : Position) (t : Expression) (from middle to : Cursor)
      → SpellsExpression text as_type t from middle
      → end_of_type position middle to
      → SpellsExpression text as_type t from to
  to_end position t from middle to s e =
      subst (λ place. SpellsExpression text as_type t from place) (end_same position middle to e) s

  pub literal_type_begins_with : (position : Position) (t : Expression) (from to : Cursor)
      → is_literal_type t ≡ true
      → SpellsExpression text position t from to
      → is_next begins_literal_type from ≡ true
  unfolding SpellsExpression SpellsForm
  literal_type_begins_with position (expression_node (array_type n t) span) from to h s =
      next_gives s.0.1.1 begins_literal_type
  literal_type_begins_with position (expression_node (ellipsis_array_type t) span) from to h s =
      next_gives s.0.1.1 begins_literal_type
  literal_type_begins_with position (expression_node (slice_type t) span) from to h s =
      next_gives s.0.1.1 begins_literal_type
  literal_type_begins_with position (expression_node (map_type k t) span) from to h s =
      next_gives s.0.1 begins_literal_type
  literal_type_begins_with position (expression_node (channel_type Both t) span) from to h s =
      next_gives s.0.1.1 begins_literal_type
  literal_type_begins_with position (expression_node (channel_type Send t) span) from to h s =
      next_gives s.0.1.1 begins_literal_type
  literal_type_begins_with position (expression_node (channel_type receive_only t) span) from to h s =
      absurd (true≢false (sym h))
  literal_type_begins_with position (expression_node (struct_type fs) span) from to h s =
      next_gives s.0.1 begins_literal_type
  literal_type_begins_with position (expression_node (interface_type fs) span) from to h s =
      next_gives s.0.1 begins_literal_type
  literal_type_begins_with position (expression_node form span) from to h s = absurd (true≢false (sym h))

  -- a name is read as what it is written as
  pub name_read : (name : List ℕ) (span : Span) (from to : Cursor)
      → word text name from to
      → span.start ≡ start_at from
      → span.end ≡ to.end
      → spanned from (name_expression (word_between text from to)) to ≡ (
        expression_node
            (name_expression name) span,
        to,
      )
  name_read name span from to s p q =
      λ i. (expression_node (name_expression (sym s.1 i)) (span_is span from to p q i), to)

  module _ (r : Readers) (below : ℕ) (complete : AreComplete text below r) where
    read_slice_type : (position : Position) (t : Expression) (span : Span) (from to : Cursor)
        → SpellsExpression text position (expression_node (slice_type t) span) from to
        → expression_depth t ≤ below
        → read_bracket_type text r from ≡ Some (expression_node (slice_type t) span, to)
    unfolding read_bracket_type SpellsExpression SpellsForm
    read_slice_type position t span from to s d =
        let inner = s.0.1 in
        let close : TakesToken RightBracket inner.0 s.0.0 =
        subst (λ place. TakesToken RightBracket place s.0.0) (sym inner.2.1) inner.2.2 in
        let element : SpellsExpression text as_type t s.0.0 to = to_end position t s.0.0 s.0.2.0 to s.0.2.1 s.0.2.2 in
        rw (behind_gives inner.1)
        (when_true _ (stands_gives close)
        (step _ (ap r.read_type (behind_gives close) ∙ complete.type s.0.0 to t element d)
        (ap Some (node_is (slice_type t) span from to s.1 s.2))))

    read_ellipsis_type : (position : Position) (t : Expression) (span : Span) (from to : Cursor)
        → SpellsExpression text position (expression_node (ellipsis_array_type t) span) from to
        → expression_depth t ≤ below
        → read_bracket_type text r from ≡ Some (expression_node (ellipsis_array_type t) span, to)
    unfolding read_bracket_type SpellsExpression SpellsForm same_kind
    read_ellipsis_type position t span from to s d =
        let inner = s.0.1 in
        let element : SpellsExpression text as_type t s.0.0 to = to_end position t s.0.0 s.0.2.0 to s.0.2.1 s.0.2.2 in
        rw (behind_gives inner.1)
        (when_false _ (stands_other inner.2.1 RightBracket refl)
        (when_true _ (stands_gives inner.2.1)
        (step _ (ap (take RightBracket) (behind_gives inner.2.1) ∙ take_gives inner.2.2)
        (step _ (complete.type s.0.0 to t element d)
        (ap Some (node_is (ellipsis_array_type t) span from to s.1 s.2))))))

    read_array_type : (position : Position) (n t : Expression) (span : Span) (from to : Cursor)
        → SpellsExpression text position (expression_node (array_type n t) span) from to
        → expression_depth n ≤ below
        → expression_depth t ≤ below
        → read_bracket_type text r from ≡ Some (expression_node (array_type n t) span, to)
    unfolding read_bracket_type SpellsExpression SpellsForm same_kind
    read_array_type position n t span from to s d k =
        let inner = s.0.1 in
        let element : SpellsExpression text as_type t s.0.0 to = to_end position t s.0.0 s.0.2.0 to s.0.2.1 s.0.2.2 in
        let begins : is_next begins_expression inner.0 ≡ true = expression_begins text n inner.0 inner.2.0 inner.2.1 in
        rw (behind_gives inner.1)
        (when_false _ (stands_not begins_expression RightBracket inner.0 refl begins)
        (when_false _ (stands_not begins_expression Ellipsis inner.0 refl begins)
        (step _ (read_any-complete text r below complete n inner.0 inner.2.0 inner.2.1 d
        (next_gives inner.2.2 ends_expression))
        (step _ (take_gives inner.2.2)
        (step _ (complete.type s.0.0 to t element k) (ap Some (node_is (array_type n t) span from to s.1 s.2)))))))

    read_map_type-complete : (position : Position) (k t : Expression) (span : Span) (from to : Cursor)
        → SpellsExpression text position (expression_node (map_type k t) span) from to
        → expression_depth k ≤ below
        → expression_depth t ≤ below
        → read_map_type text r from ≡ Some (expression_node (map_type k t) span, to)
    unfolding read_map_type SpellsExpression SpellsForm
    read_map_type-complete position k t span from to s d e =
        let inner = s.0.2.1 in
        let element : SpellsExpression text as_type t s.0.2.0 to =
        to_end position t s.0.2.0 s.0.2.2.0 to s.0.2.2.1 s.0.2.2.2 in
        step _ (ap (take LeftBracket) (behind_gives s.0.1) ∙ take_gives inner.1)
        (step _ (complete.type inner.0 inner.2.0 k inner.2.1 d)
        (step _ (take_gives inner.2.2)
        (step _ (complete.type s.0.2.0 to t element e) (ap Some (node_is (map_type k t) span from to s.1 s.2)))))

    read_channel_type-both : (position : Position) (t : Expression) (span : Span) (from to : Cursor)
        → SpellsExpression text position (expression_node (channel_type Both t) span) from to
        → expression_depth t ≤ below
        → read_channel_type text r from ≡ Some (expression_node (channel_type Both t) span, to)
    unfolding read_channel_type SpellsExpression SpellsForm
    read_channel_type-both position t span from to s d =
        let word = s.0.1 in
        let last : SpellsExpression text as_type t s.0.0 to = to_end position t s.0.0 s.0.2.0 to s.0.2.1 s.0.2.2 in
        let element : SpellsExpression text as_type t word.0 to =
        subst (λ place. SpellsExpression text as_type t place to) (sym word.2.0) last in
        rw (behind_gives word.1)
        (when_false _ (stands_none is_arrow Arrow word.0 refl word.2.1)
        (step _ (complete.type word.0 to t element d)
        (ap Some (node_is (channel_type Both t) span from to s.1 s.2))))

    read_channel_type-send : (position : Position) (t : Expression) (span : Span) (from to : Cursor)
        → SpellsExpression text position (expression_node (channel_type Send t) span) from to
        → expression_depth t ≤ below
        → read_channel_type text r from ≡ Some (expression_node (channel_type Send t) span, to)
    unfolding read_channel_type SpellsExpression SpellsForm
    read_channel_type-send position t span from to s d =
        let word = s.0.1 in
        let element : SpellsExpression text as_type t s.0.0 to = to_end position t s.0.0 s.0.2.0 to s.0.2.1 s.0.2.2 in
        rw (behind_gives word.1)
        (when_true _ (stands_gives word.2)
        (step _ (ap r.read_type (behind_gives word.2) ∙ complete.type s.0.0 to t element d)
        (ap Some (node_is (channel_type Send t) span from to s.1 s.2))))

    fields_end : (position : Position) (owner : Owner) (fs : Fields) (from middle to : Cursor)
        → in_braces (SpellsFields text owner fs) from middle
        → end_of_type position middle to
        → in_braces (SpellsFields text owner fs) from to
    fields_end position owner fs from middle to s e =
        subst (λ place. in_braces (SpellsFields text owner fs) from place) (end_same position middle to e) s

    pub read_literal_type-complete : (position : Position) (t : Expression) (from to : Cursor)
        → is_literal_type t ≡ true
        → SpellsExpression text position t from to
        → expression_depth t ≤ suc below
        → read_literal_type text r from ≡ Some (t, to)
    unfolding read_literal_type SpellsExpression SpellsForm expression_depth below_expression same_kind
    read_literal_type-complete position (expression_node (array_type n t) span) from to h s d =
        when_true _ (stands_gives s.0.1.1) (read_array_type position n t span from to s (omega arith) (omega arith))
    read_literal_type-complete position (expression_node (ellipsis_array_type t) span) from to h s d =
        when_true _ (stands_gives s.0.1.1) (read_ellipsis_type position t span from to s (omega arith))
    read_literal_type-complete position (expression_node (slice_type t) span) from to h s d =
        when_true _ (stands_gives s.0.1.1) (read_slice_type position t span from to s (omega arith))
    read_literal_type-complete position (expression_node (map_type k t) span) from to h s d =
        when_false _ (stands_other s.0.1 LeftBracket refl)
        (when_true _ (stands_gives s.0.1)
        (read_map_type-complete position k t span from to s (omega arith) (omega arith)))
    read_literal_type-complete position (expression_node (channel_type receive_only t) span) from to h s d =
        absurd (true≢false (sym h))
    read_literal_type-complete position (expression_node (channel_type Both t) span) from to h s d =
        when_false _ (stands_other s.0.1.1 LeftBracket refl)
        (when_false _ (stands_other s.0.1.1 MapKeyword refl)
        (when_true _ (stands_gives s.0.1.1) (read_channel_type-both position t span from to s (omega arith))))
    read_literal_type-complete position (expression_node (channel_type Send t) span) from to h s d =
        when_false _ (stands_other s.0.1.1 LeftBracket refl)
        (when_false _ (stands_other s.0.1.1 MapKeyword refl)
        (when_true _ (stands_gives s.0.1.1) (read_channel_type-send position t span from to s (omega arith))))
    read_literal_type-complete position (expression_node (struct_type fs) span) from to h s d =
        let fields = fields_end position of_struct fs s.0.0 s.0.2.0 to s.0.2.1 s.0.2.2 in
        when_false _ (stands_other s.0.1 LeftBracket refl)
        (when_false _ (stands_other s.0.1 MapKeyword refl)
        (when_false _ (stands_other s.0.1 ChanKeyword refl)
        (when_true _ (stands_gives s.0.1)
        (step _ (ap (read_braced_fields text r of_struct) (behind_gives s.0.1)
        ∙ read_braced_fields-complete text r below complete of_struct fs s.0.0 to fields (omega arith))
        (ap Some (node_is (struct_type fs) span from to s.1 s.2))))))
    read_literal_type-complete position (expression_node (interface_type fs) span) from to h s d =
        let fields = fields_end position of_interface fs s.0.0 s.0.2.0 to s.0.2.1 s.0.2.2 in
        when_false _ (stands_other s.0.1 LeftBracket refl)
        (when_false _ (stands_other s.0.1 MapKeyword refl)
        (when_false _ (stands_other s.0.1 ChanKeyword refl)
        (when_false _ (stands_other s.0.1 StructKeyword refl)
        (step _ (take_gives s.0.1)
        (step _ (read_braced_fields-complete text r below complete of_interface fs s.0.0 to fields (omega arith))
        (ap Some (node_is (interface_type fs) span from to s.1 s.2)))))))
    read_literal_type-complete position (expression_node form span) from to h s d = absurd (true≢false (sym h))

    literal_type : (t : Expression) (from to : Cursor)
        → is_literal_type t ≡ true
        → SpellsExpression text as_type t from to
        → expression_depth t ≤ suc below
        → read_type_of text r below from ≡ Some (t, to)
    unfolding read_type_of
    literal_type t from to h s d =
        let begins : is_next begins_literal_type from ≡ true = literal_type_begins_with as_type t from to h s in
        when_false _ (stands_not begins_literal_type identifier_kind from refl begins)
        (when_false _ (stands_not begins_literal_type Star from refl begins)
        (when_false _ (stands_not begins_literal_type LeftParenthesis from refl begins)
        (when_false _ (stands_not begins_literal_type Arrow from refl begins)
        (when_false _ (stands_not begins_literal_type FuncKeyword from refl begins)
        (read_literal_type-complete as_type t from to h s d)))))

    pub read_selector-complete : (e : Expression) (n : Identifier) (span : Span) (from middle after to : Cursor)
        → TakesToken Dot middle after
        → identifier text n after to
        → span.start ≡ start_at from
        → span.end ≡ to.end
        → read_selector text r below from e middle ≡ Some (expression_node (selector_expression e n) span, to)
    unfolding read_selector
    read_selector-complete e n span from middle after to dot name p q =
        step _ (ap (read_identifier text) (behind_gives dot) ∙ read_identifier-complete text n after to name)
        (ap Some (node_is (selector_expression e n) span from to p q))

    -- the name of a type, and what is read behind it
    named_type : (e : Expression) (from place : Cursor) (wanted : Read Expression)
        → names_type e ≡ true
        → (is_name e ≡ true → stands Dot place ≡ false)
        → SpellsExpression text as_expression e from place
        → expression_depth e ≤ suc below
        → read_type_arguments text r below from e place ≡ wanted
        → read_type_of text r below from ≡ wanted
    unfolding read_type_of read_named_type SpellsExpression SpellsForm expression_depth below_expression
    named_type (expression_node (name_expression name) span) from place wanted h no_dot s d read =
        let spelled : word text name from place = subst (λ c. word text name from c) s.0.2 s.0.1 in
        when_true _ (stands_gives spelled.0)
        (rw (behind_gives spelled.0)
        (when_false _ (no_dot refl)
        (ap (λ (x : Expression × Cursor). read_type_arguments text r below from x.0 x.1)
        (name_read name span from place spelled s.1 s.2) ∙ read)))
    named_type (expression_node (selector_expression (expression_node (name_expression name) at) n) span) from place wanted h no_dot s d read =
        let e = s.0.1.1 in
        let after : Cursor = s.0.1.0 in
        let spelled : word text name from after = subst (λ c. word text name from c) e.0.2 e.0.1 in
        let last : identifier text n s.0.1.2.0 place =
        subst (λ c. identifier text n s.0.1.2.0 c) s.0.1.2.2.2 s.0.1.2.2.1 in
        let found : spanned from (name_expression (word_between text from after)) after
        ≡ (expression_node (name_expression name) at, after) = name_read name at from after spelled e.1 e.2 in
        when_true _ (stands_gives spelled.0)
        (rw (behind_gives spelled.0)
        (when_true _ (stands_gives s.0.1.2.1)
        (step _ (ap (λ (part : Expression × Cursor). around text r below part.0
        (read_selector text r below from part.0 after)) found ∙ only_true (le-leb 1 below (omega arith))
        (read_selector-complete
        (expression_node (name_expression name) at) n span from after s.0.1.2.0 place s.0.1.2.1 last s.1 s.2))
        read)))
    named_type (expression_node (selector_expression (expression_node _ at) n) span) from place wanted h no_dot s d read =
        absurd (true≢false (sym h))
    named_type (expression_node _ span) from place wanted h no_dot s d read = absurd (true≢false (sym h))

    -- the brackets of an instance
    arguments-read : (e t : Expression) (from place inner to : Cursor)
        → IsSecond text.edition
        → TakesToken LeftBracket place inner
        → is_instance t ≡ true
        → is_type t ≡ true
        → expression_depth e ≤ below
        → read_index text r from e place ≡ Some (t, to)
        → read_type_arguments text r below from e place ≡ Some (t, to)
    unfolding read_type_arguments
    arguments-read e t from place inner to second bracket instance types d read =
        when_true _ (and_true (second_true text.edition second) (stands_gives bracket))
        (step _ (only_true (le-leb (expression_depth e) below d) read) (only_true (and_true instance types) refl))

    no_arguments-read : (e : Expression) (from place : Cursor)
        → is_next (takes_arguments text.edition) place ≡ false
        → read_type_arguments text r below from e place ≡ Some (e, place)
    unfolding read_type_arguments
    no_arguments-read e from place none = when_false _ (no_brackets text.edition place none) refl

    pub read_type_of-complete : (from to : Cursor) (t : Expression)
        → SpellsExpression text as_type t from to
        → expression_depth t ≤ suc below
        → read_type_of text r below from ≡ Some (t, to)
    unfolding read_type_of SpellsExpression SpellsForm expression_depth below_expression is_type same_kind
    read_type_of-complete from to (expression_node (name_expression name) span) s d =
        let end : s.0.0 ≡ to = s.0.2.1.0 ∙ s.0.2.2.0 in
        let no_dot : stands Dot to ≡ false =
        stands_none is_dot Dot to refl (ap (is_next is_dot) (sym end) ∙ s.0.2.1.1) in
        let none : is_next (takes_arguments text.edition) to ≡ false =
        ap (is_next (takes_arguments text.edition)) (sym s.0.2.2.0) ∙ s.0.2.2.1 in
        let e = expression_node (name_expression name) span in
        named_type e from to (Some (e, to)) refl (λ alone. no_dot) ((s.0.0, s.0.1, end), s.1, s.2) d
        (no_arguments-read e from to none)
    read_type_of-complete from to (expression_node (selector_expression (expression_node (name_expression name) at) n) span) s d =
        let rest = s.0.1.2.2 in
        let none : is_next (takes_arguments text.edition) to ≡ false =
        ap (is_next (takes_arguments text.edition)) (sym rest.2.0) ∙ rest.2.1 in
        let e = expression_node (selector_expression (expression_node (name_expression name) at) n) span in
        named_type e from to (Some (e, to)) refl (λ alone. absurd (true≢false (sym alone)))
        ((refl, (s.0.1.0, s.0.1.1, (s.0.1.2.0, s.0.1.2.1, (rest.0, rest.1, rest.2.0)))), s.1, s.2) d
        (no_arguments-read e from to none)
    read_type_of-complete from to (expression_node (selector_expression (expression_node _ at) n) span) s d =
        absurd (true≢false (sym s.0.0))
    read_type_of-complete from to (expression_node (index_expression e i) span) s d =
        let rule = s.0.1.1 in
        let t = expression_node (index_expression e i) span in
        named_type e from rule.0 (Some (t, to)) s.0.0.1 (λ alone. stands_other rule.2.1 Dot refl) rule.1 (omega arith)
        (arguments-read e t from rule.0 rule.2.0 to s.0.0.0 rule.2.1 refl (and_true s.0.0.1 s.0.0.2) (omega arith)
        (read_index-complete text r below complete e i span from rule.0 to rule.2 (omega arith) s.1 s.2))
    read_type_of-complete from to (expression_node (instance_expression e es) span) s d =
        let rule = s.0.1.1.1 in
        let can = s.0.1.0 in
        let t = expression_node (instance_expression e es) span in
        named_type e from rule.0 (Some (t, to)) can.1 (λ alone. stands_other rule.2.1 Dot refl) rule.1 (omega arith)
        (arguments-read e t from rule.0 rule.2.0 to s.0.0 rule.2.1 refl (and_true can.1 can.2) (omega arith)
        (read_instance-complete text r below complete e es span from rule.0 to s.0.0 rule.2 (omega arith) s.1 s.2))
    read_type_of-complete from to (expression_node (unary_expression Tilde e) span) s d =
        let p : as_type ≡ as_constraint = s.0.0 in cc
    read_type_of-complete from to (expression_node (star_expression t) span) s d =
        let star = s.0.1.1 in
        when_false _ (stands_other star identifier_kind refl)
        (when_true _ (stands_gives star)
        (step _ (ap r.read_type (behind_gives star) ∙ complete.type s.0.1.0 to t s.0.1.2 (omega arith))
        (ap Some (node_is (star_expression t) span from to s.1 s.2))))
    read_type_of-complete from to (expression_node (parenthesized t) span) s d =
        when_false _ (stands_other s.0.1 identifier_kind refl)
        (when_false _ (stands_other s.0.1 Star refl)
        (when_true _ (stands_gives s.0.1)
        (step _ (ap r.read_type (behind_gives s.0.1) ∙ complete.type s.0.0 s.0.2.0 t s.0.2.1 (omega arith))
        (step _ (take_gives s.0.2.2) (ap Some (node_is (parenthesized t) span from to s.1 s.2))))))
    read_type_of-complete from to (expression_node (channel_type receive_only t) span) s d =
        let arrow = s.0.1.1 in
        let element : SpellsExpression text as_type t s.0.0 to = to_end as_type t s.0.0 s.0.2.0 to s.0.2.1 s.0.2.2 in
        when_false _ (stands_other arrow identifier_kind refl)
        (when_false _ (stands_other arrow Star refl)
        (when_false _ (stands_other arrow LeftParenthesis refl)
        (when_true _ (stands_gives arrow)
        (step _ (ap (take ChanKeyword) (behind_gives arrow) ∙ take_gives s.0.1.2)
        (step _ (complete.type s.0.0 to t element (omega arith))
        (ap Some (node_is (channel_type receive_only t) span from to s.1 s.2)))))))
    read_type_of-complete from to (expression_node (channel_type Both t) span) s d =
        literal_type (expression_node (channel_type Both t) span) from to refl s d
    read_type_of-complete from to (expression_node (channel_type Send t) span) s d =
        literal_type (expression_node (channel_type Send t) span) from to refl s d
    read_type_of-complete from to (expression_node (function_type signature) span) s d =
        let spelled : SpellsSignature text signature s.0.0 to =
        subst (λ place. SpellsSignature text signature s.0.0 place) s.0.2.2 s.0.2.1 in
        when_false _ (stands_other s.0.1 identifier_kind refl)
        (when_false _ (stands_other s.0.1 Star refl)
        (when_false _ (stands_other s.0.1 LeftParenthesis refl)
        (when_false _ (stands_other s.0.1 Arrow refl)
        (when_true _ (stands_gives s.0.1)
        (step _ (ap (read_signature text r) (behind_gives s.0.1)
        ∙ read_signature-complete text r below complete signature s.0.0 to spelled (omega arith))
        (ap Some (node_is (function_type signature) span from to s.1 s.2)))))))
    read_type_of-complete from to (expression_node (array_type n t) span) s d =
        literal_type (expression_node (array_type n t) span) from to refl s d
    read_type_of-complete from to (expression_node (ellipsis_array_type t) span) s d =
        literal_type (expression_node (ellipsis_array_type t) span) from to refl s d
    read_type_of-complete from to (expression_node (slice_type t) span) s d =
        literal_type (expression_node (slice_type t) span) from to refl s d
    read_type_of-complete from to (expression_node (map_type k t) span) s d =
        literal_type (expression_node (map_type k t) span) from to refl s d
    read_type_of-complete from to (expression_node (struct_type fs) span) s d =
        literal_type (expression_node (struct_type fs) span) from to refl s d
    read_type_of-complete from to (expression_node (interface_type fs) span) s d =
        literal_type (expression_node (interface_type fs) span) from to refl s d
    read_type_of-complete from to (expression_node (key_value k v) span) s d =
        let p : as_type ≡ as_element = s.0.0 in cc
    read_type_of-complete from to (expression_node form span) s d = absurd s.0.0
