-- The reader gives each primary expression that is spelled. It is spelled by its operand and then by its suffixes, and
-- the reader arrives at it one suffix after the other.
use Rattle.std.proofs.Common.{◌≡◌, ℕ, zero, suc, ◌≤◌, ◌<◌, Bool, true, false, true≢false, List, length, Some, None, refl, sym, subst, ap, ◌∙◌, inl, inr, arith}
use Rattle.std.specs.Prelude.{if◌then◌else◌, not, ◌&&◌}
use Rattle.lexer.specs.Spelling.{same_kind}
use Rattle.lexer.specs.declared.token.TokenKind.{TokenKind}
use Rattle.lexer.specs.declared.token.TokenKind.TheVariants.{Identifier as identifier_kind, Number as number_token, Rune as rune_token, InterpretedString as interpreted_string_token, RawString as raw_string_token, ChanKeyword, FuncKeyword, InterfaceKeyword, MapKeyword, StructKeyword, TypeKeyword, LeftParenthesis, RightParenthesis, LeftBracket, RightBracket, LeftBrace, RightBrace, Dot, Colon}
use Rattle.tree.specs.declared.span.Span.{Span}
use Rattle.tree.specs.declared.operator.BasicLitKind.{BasicLitKind}
use Rattle.tree.specs.declared.operator.BasicLitKind.TheVariants.{Number, Rune, InterpretedString, RawString}
use Rattle.tree.specs.declared.operator.ChanDirection.TheVariants.{Both, Send, Receive as receive_only}
use Rattle.tree.specs.Syntax.{Expression, expression_node, name_expression, basic_literal, function_literal, composite_literal, literal_value, key_value, parenthesized, selector_expression, index_expression, instance_expression, slice_expression, type_assertion, call_expression, star_expression, unary_expression, binary_expression, array_type, ellipsis_array_type, slice_type, map_type, channel_type, function_type, struct_type, interface_type, Expressions, OptionalExpression, missing_expression, present_expression, Signature, Statements}
use Rattle.tree.specs.Depth.{expression_depth, below_expression, expressions_depth, optional_depth, signature_depth, statements_depth}
use Rattle.meaning.specs.Cursor.{GoText, Cursor, TakesToken, ◌⨾◌, token, is_next, word, start_at}
use Rattle.meaning.specs.OperatorTokens.{literal_token, can_begin_type, is_left_brace}
use Rattle.meaning.specs.WellFormed.{IsPrimary, is_name, is_type_name, takes_elements, has_bare_literal, has_bare_literal_form}
use Rattle.meaning.specs.Grammar.{as_type, as_expression, as_element, arguments, elements, third_bound, in_parentheses, in_brackets, in_braces, block, end_of_type, SpellsExpression, SpellsForm, SpellsExpressions, SpellsOptional, SpellsSignature, SpellsStatements}
use Rattle.tree_reader.specs.Reading.{Read, ◌>>=◌, stands, behind, steps, spanned, word_between}
use Rattle.tree_reader.specs.Reader.{Readers, literal_kind, of_next, takes_braces, read_any, read_arguments, read_signature, read_function, read_typed, read_operand, read_index, read_call, read_assertion, read_selector, read_composite, read_suffix, go_on, read_suffixes, read_primary}
use Rattle.tree_reader.specs.Claims.{StandsIn, CannotGoOn, AreComplete}
use Rattle.tree_reader.proofs.Taken.{step, when_true, when_false, only_true, and_true, and_false, and_not, or_left, take_gives, stands_gives, stands_other, behind_gives, next_gives, of_next_gives, stands_not, stands_none, of_next_none, node_is}
use Rattle.tree_reader.proofs.Lengths.{token_shorter, expression_shorter, identifier_shorter}
use Rattle.tree_reader.proofs.Begins.{begins_expression, type_begins, expression_begins, operator_low}
use Rattle.tree_reader.proofs.CompleteLists.{ends_expression, ended, read_expression_unless-complete, read_any-complete, read_braced_elements-complete, read_arguments-complete, read_block-complete}
use Rattle.tree_reader.proofs.Lengths.{after_instance_longest}
use Rattle.tree_reader.proofs.CompleteIndexes.{second_true, read_index-complete, read_slice-complete, read_instance-complete}
use Rattle.meaning.specs.WellFormed.{is_type}
use Rattle.meaning.specs.Cursor.{identifier}
use Rattle.tree_reader.proofs.CompleteSignatures.{read_signature-complete}
use Rattle.std.proofs.lemmas.Bool.{le-leb}
use Rattle.std.proofs.Common.{◌⊎◌}
use Rattle.meaning.specs.Cursor.{Rule}
use Rattle.tree_reader.proofs.Lengths.{weak, both, first_then, enclosed, arguments_longest, elements_longest, third_bound_longest, expressions_longest, optional_expression_longest}
use Rattle.tree_reader.proofs.CompleteTypes.{is_literal_type, begins_literal_type, literal_type_begins_with, name_read, read_literal_type-complete, read_selector-complete}

module _ (text : GoText) (r : Readers) (below : ℕ) (complete : AreComplete text below r) where
  read_call-complete : (e : Expression) (es : Expressions) (ellipsis : Bool) (span : Span) (from place to : Cursor)
      → in_parentheses (arguments es ellipsis (SpellsExpressions text as_expression es)) place to
      → expressions_depth es ≤ below
      → span.start ≡ start_at from
      → span.end ≡ to.end
      → read_call text r below from e place ≡ Some (expression_node (call_expression e es ellipsis) span, to)
  unfolding read_call
  read_call-complete e es ellipsis span from place to s d p q =
      step _ (ap (λ at. read_arguments text r (steps at) at) (behind_gives s.1)
      ∙ read_arguments-complete text r below complete (steps s.0) es ellipsis s.0 s.2.0 to s.2.1 s.2.2 d
      (omega arith))
      (step _ (take_gives s.2.2) (ap Some (node_is (call_expression e es ellipsis) span from to p q)))

  read_assertion-complete : (e t : Expression) (span : Span) (from place middle to : Cursor)
      → TakesToken Dot place middle
      → in_parentheses (SpellsExpression text as_type t) middle to
      → expression_depth t ≤ below
      → span.start ≡ start_at from
      → span.end ≡ to.end
      → read_assertion text r below from e place ≡ Some (expression_node (type_assertion e t) span, to)
  unfolding read_assertion
  read_assertion-complete e t span from place middle to dot s d p q =
      step _ (ap (λ at. r.read_type (behind at)) (behind_gives dot)
      ∙ (ap r.read_type (behind_gives s.1) ∙ complete.type s.0 s.2.0 t s.2.1 d))
      (step _ (take_gives s.2.2) (ap Some (node_is (type_assertion e t) span from to p q)))

  read_composite-complete : (t : Expression) (es : Expressions) (span : Span) (from place to : Cursor)
      → in_braces (elements es (SpellsExpressions text as_element es)) place to
      → expressions_depth es ≤ below
      → span.start ≡ start_at from
      → span.end ≡ to.end
      → read_composite text r below from t place ≡ Some (expression_node (composite_literal t es) span, to)
  unfolding read_composite
  read_composite-complete t es span from place to s d p q =
      step _ (read_braced_elements-complete text r below complete es place to s d)
      (ap Some (node_is (composite_literal t es) span from to p q))

  read_function-literal : (signature : Signature) (ss : Statements) (braces span : Span) (from inner middle to : Cursor)
      → TakesToken FuncKeyword from inner
      → SpellsSignature text signature inner middle
      → block braces (SpellsStatements text ss) middle to
      → signature_depth signature ≤ below
      → statements_depth ss ≤ below
      → span.start ≡ start_at from
      → span.end ≡ to.end
      → read_function text r below from ≡ Some (expression_node (function_literal signature ss braces) span, to)
  unfolding read_function
  read_function-literal signature ss braces span from inner middle to word s b d k p q =
      step _ (ap (read_signature text r) (behind_gives word)
      ∙ read_signature-complete text r below complete signature inner middle s d)
      (when_true _ (stands_gives b.0.1)
      (step _ (read_block-complete text r below complete ss braces middle to b k)
      (ap Some (node_is (function_literal signature ss braces) span from to p q))))

  read_function-type : (signature : Signature) (span : Span) (from inner to : Cursor)
      → TakesToken FuncKeyword from inner
      → SpellsSignature text signature inner to
      → stands LeftBrace to ≡ false
      → signature_depth signature ≤ below
      → span.start ≡ start_at from
      → span.end ≡ to.end
      → read_function text r below from ≡ Some (expression_node (function_type signature) span, to)
  unfolding read_function
  read_function-type signature span from inner to word s e d p q =
      step _ (ap (read_signature text r) (behind_gives word)
      ∙ read_signature-complete text r below complete signature inner to s d)
      (when_false _ e (ap Some (node_is (function_type signature) span from to p q)))

  no_literal : (k : TokenKind) → begins_literal_type k ≡ true → literal_kind k ≡ None
  no_literal LeftBracket e = refl
  no_literal MapKeyword e = refl
  no_literal ChanKeyword e = refl
  no_literal StructKeyword e = refl
  no_literal InterfaceKeyword e = refl
  no_literal _ e = absurd (true≢false (sym e))

  -- an operand that begins as a literal's type does
  read_operand-typed : (e : Expression) (from to : Cursor)
      → is_next begins_literal_type from ≡ true
      → read_typed text r below from ≡ Some (e, to)
      → read_operand text r below from ≡ Some (e, to)
  unfolding read_operand
  read_operand-typed e from to begins read =
      let none : of_next literal_kind from ≡ None =
      of_next_none begins_literal_type literal_kind from no_literal begins in
      when_false _ (stands_not begins_literal_type identifier_kind from refl begins)
      (when_false _ (stands_not begins_literal_type LeftParenthesis from refl begins)
      (when_false _ (stands_not begins_literal_type FuncKeyword from refl begins)
      (rw none read)))

  read_typed-alone : (t : Expression) (from to : Cursor)
      → is_literal_type t ≡ true
      → SpellsExpression text as_expression t from to
      → expression_depth t ≤ suc below
      → stands LeftBrace to ≡ false
      → read_operand text r below from ≡ Some (t, to)
  unfolding read_typed
  read_typed-alone t from to h s d e =
      read_operand-typed t from to (literal_type_begins_with text as_expression t from to h s)
      (step _ (read_literal_type-complete text r below complete as_expression t from to h s d)
      (when_false _ e refl))

  read_typed-literal : (t : Expression) (es : Expressions) (span : Span) (from place to : Cursor)
      → is_literal_type t ≡ true
      → SpellsExpression text as_type t from place
      → in_braces (elements es (SpellsExpressions text as_element es)) place to
      → expression_depth t ≤ below
      → expressions_depth es ≤ below
      → span.start ≡ start_at from
      → span.end ≡ to.end
      → read_operand text r below from ≡ Some (expression_node (composite_literal t es) span, to)
  unfolding read_typed
  read_typed-literal t es span from place to h s b d k p q =
      read_operand-typed (expression_node (composite_literal t es) span) from to
      (literal_type_begins_with text as_type t from place h s)
      (step _ (read_literal_type-complete text r below complete as_type t from place h s (omega arith))
      (when_true _ (stands_gives b.1)
      (step _ (read_braced_elements-complete text r below complete es place to b k)
      (only_true (le-leb (expression_depth t) below d)
      (ap Some (node_is (composite_literal t es) span from to p q))))))

  literal_of : (kind : BasicLitKind) → literal_kind (literal_token kind) ≡ Some kind
  literal_of Number = refl
  literal_of Rune = refl
  literal_of InterpretedString = refl
  literal_of RawString = refl

  abbrev is_literal_token : TokenKind → Bool
  is_literal_token number_token = true
  is_literal_token rune_token = true
  is_literal_token interpreted_string_token = true
  is_literal_token raw_string_token = true
  is_literal_token _ = false

  literal_is_one : (kind : BasicLitKind) → is_literal_token (literal_token kind) ≡ true
  literal_is_one Number = refl
  literal_is_one Rune = refl
  literal_is_one InterpretedString = refl
  literal_is_one RawString = refl

  read_operand-literal : (kind : BasicLitKind) (span : Span) (from to : Cursor)
      → TakesToken (literal_token kind) from to
      → span.start ≡ start_at from
      → span.end ≡ to.end
      → read_operand text r below from ≡ Some (expression_node (basic_literal kind) span, to)
  unfolding read_operand
  read_operand-literal kind span from to t p q =
      let begins : is_next is_literal_token from ≡ true = next_gives t is_literal_token ∙ literal_is_one kind in
      let found : of_next literal_kind from ≡ Some kind = of_next_gives t literal_kind ∙ literal_of kind in
      when_false _ (stands_not is_literal_token identifier_kind from refl begins)
      (when_false _ (stands_not is_literal_token LeftParenthesis from refl begins)
      (when_false _ (stands_not is_literal_token FuncKeyword from refl begins)
      (rw found (ap (λ place. Some (spanned from (basic_literal kind) place)) (behind_gives t)
      ∙ ap Some (node_is (basic_literal kind) span from to p q)))))

  read_operand-name : (name : List ℕ) (span : Span) (from to : Cursor)
      → word text name from to
      → span.start ≡ start_at from
      → span.end ≡ to.end
      → read_operand text r below from ≡ Some (expression_node (name_expression name) span, to)
  unfolding read_operand
  read_operand-name name span from to s p q =
      when_true _ (stands_gives s.0)
      (ap (λ place. Some (spanned from (name_expression (word_between text from place)) place)) (behind_gives s.0)
      ∙ ap Some (name_read text name span from to s p q))

  read_operand-parenthesized : (e : Expression) (span : Span) (from to : Cursor)
      → in_parentheses (SpellsExpression text as_expression e) from to
      → expression_depth e ≤ below
      → span.start ≡ start_at from
      → span.end ≡ to.end
      → read_operand text r below from ≡ Some (expression_node (parenthesized e) span, to)
  unfolding read_operand same_kind
  read_operand-parenthesized e span from to s d p q =
      when_false _ (stands_other s.1 identifier_kind refl)
      (when_true _ (stands_gives s.1)
      (step _ (ap (read_any text r) (behind_gives s.1) ∙ read_any-complete text r below complete e s.0 s.2.0 s.2.1 d
      (next_gives s.2.2 ends_expression))
      (step _ (take_gives s.2.2) (ap Some (node_is (parenthesized e) span from to p q)))))

  read_operand-function : (e : Expression) (from inner to : Cursor)
      → TakesToken FuncKeyword from inner
      → read_function text r below from ≡ Some (e, to)
      → read_operand text r below from ≡ Some (e, to)
  unfolding read_operand same_kind
  read_operand-function e from inner to word read =
      when_false _ (stands_other word identifier_kind refl)
      (when_false _ (stands_other word LeftParenthesis refl)
      (when_true _ (stands_gives word) read))

  -- What is read from here on, with steps enough for all tokens that are left, is that.
  abbrev pub Continues : Bool → Cursor → Expression → Cursor → Read Expression → Type 0
  Continues header from e place wanted =
      (n : ℕ) → length place.left < n → read_suffixes text r below header from n e place ≡ wanted

  grow : (header : Bool) (from : Cursor) (e bigger : Expression) (place to : Cursor) (grown wanted : Read Expression)
      → read_suffix text r below header from e place ≡ Some grown
      → expression_depth e ≤ below
      → grown ≡ Some (bigger, to)
      → length to.left < length place.left
      → Continues header from bigger to wanted
      → Continues header from e place wanted
  unfolding read_suffixes
  grow header from e bigger place to grown wanted suffix d read shorter more zero short = absurd (omega arith)
  grow header from e bigger place to grown wanted suffix d read shorter more (suc n) short =
      ap (go_on text r below (read_suffixes text r below header from n) e place) suffix ∙ step _
      (only_true (le-leb (expression_depth e) below d) read) (more n (omega arith))

  operand_first : (header : Bool) (e : Expression) (from to : Cursor) (wanted : Read Expression)
      → read_operand text r below from ≡ Some (e, to)
      → Continues header from e to wanted
      → read_primary text r below header from ≡ wanted
  unfolding read_primary
  operand_first header e from to wanted read more = step _ read (more (steps to) (omega arith))

  -- which suffix stands next
  suffix-selector : (header : Bool) (from : Cursor) (e : Expression) (place middle to : Cursor)
      → TakesToken Dot place middle
      → TakesToken identifier_kind middle to
      → read_suffix text r below header from e place ≡ Some (read_selector text r below from e place)
  unfolding same_kind
  suffix-selector header from e place middle to dot name =
      let no_bracket : stands LeftParenthesis (behind place) ≡ false =
      ap (stands LeftParenthesis) (behind_gives dot) ∙ stands_other name LeftParenthesis refl in
      when_true _ (stands_gives dot) (when_false _ (and_false _ no_bracket) (when_false _ no_bracket refl))

  suffix-assertion : (header : Bool) (from : Cursor) (e t : Expression) (place middle to : Cursor)
      → TakesToken Dot place middle
      → in_parentheses (SpellsExpression text as_type t) middle to
      → read_suffix text r below header from e place ≡ Some (read_assertion text r below from e place)
  suffix-assertion header from e t place middle to dot s =
      let no_type : stands TypeKeyword (behind (behind place)) ≡ false =
      ap (λ at. stands TypeKeyword (behind at)) (behind_gives dot)
      ∙ (ap (stands TypeKeyword) (behind_gives s.1) ∙ stands_not can_begin_type TypeKeyword s.0 refl
      (type_begins text t s.0 s.2.0 s.2.1)) in
      let bracket : stands LeftParenthesis (behind place) ≡ true =
      ap (stands LeftParenthesis) (behind_gives dot) ∙ stands_gives s.1 in
      when_true _ (stands_gives dot) (when_false _ (and_not _ no_type) (when_true _ bracket refl))

  suffix-index : (header : Bool) (from : Cursor) (e : Expression) (place to : Cursor)
      → TakesToken LeftBracket place to
      → read_suffix text r below header from e place ≡ Some (read_index text r from e place)
  unfolding same_kind
  suffix-index header from e place to t = when_false _ (stands_other t Dot refl) (when_true _ (stands_gives t) refl)

  suffix-call : (header : Bool) (from : Cursor) (e : Expression) (place to : Cursor)
      → TakesToken LeftParenthesis place to
      → read_suffix text r below header from e place ≡ Some (read_call text r below from e place)
  unfolding same_kind
  suffix-call header from e place to t =
      when_false _ (stands_other t Dot refl)
      (when_false _ (stands_other t LeftBracket refl)
      (when_true _ (stands_gives t) refl))

  suffix-composite : (header : Bool) (from : Cursor) (e : Expression) (place to : Cursor)
      → TakesToken LeftBrace place to
      → header ≡ false
      → takes_braces text.edition e ≡ true
      → read_suffix text r below header from e place ≡ Some (read_composite text r below from e place)
  unfolding same_kind
  suffix-composite header from e place to t h n =
      when_false _ (stands_other t Dot refl)
      (when_false _ (stands_other t LeftBracket refl)
      (when_false _ (stands_other t LeftParenthesis refl)
      (when_true _ (and_true (stands_gives t) (and_true (ap not h) n)) refl)))

  bare_header : (header : Bool) (e : Expression) → StandsIn header e → has_bare_literal e ≡ true → header ≡ false
  bare_header true e h b = absurd (true≢false (sym b ∙ h))
  bare_header false e h b = refl

  name_primary : (e : Expression) → is_name e ≡ true → IsPrimary e
  name_primary (expression_node (name_expression name) span) h = refl
  name_primary (expression_node _ span) h = absurd (true≢false (sym h))

  type_name_primary : (t : Expression) → is_type_name t ≡ true → IsPrimary t
  type_name_primary (expression_node (name_expression name) span) h = refl
  type_name_primary (expression_node (selector_expression e n) span) h = refl
  type_name_primary (expression_node (index_expression e i) span) h = refl
  type_name_primary (expression_node (instance_expression e es) span) h = refl
  type_name_primary (expression_node _ span) h = absurd (true≢false (sym h))

  -- the name of a type stands as an expression before the braces of a literal
  type_name_as_expression : (t : Expression) (from to : Cursor)
      → is_type_name t ≡ true
      → SpellsExpression text as_type t from to
      → SpellsExpression text as_expression t from to
  unfolding SpellsExpression SpellsForm
  type_name_as_expression (expression_node (name_expression name) span) from to h s =
      ((s.0.0, s.0.1, s.0.2.1.0 ∙ s.0.2.2.0), s.1, s.2)
  type_name_as_expression (expression_node (selector_expression e n) span) from to h s =
      let rest = s.0.1.2.2 in
      ((name_primary e s.0.0, (s.0.1.0, s.0.1.1, (s.0.1.2.0, s.0.1.2.1, (rest.0, rest.1, rest.2.0)))), s.1, s.2)
  type_name_as_expression (expression_node (index_expression e i) span) from to h s = ((tt, s.0.1), s.1, s.2)
  type_name_as_expression (expression_node (instance_expression e es) span) from to h s =
      ((s.0.0, (tt, s.0.1.1)), s.1, s.2)
  type_name_as_expression (expression_node _ span) from to h s = absurd (true≢false (sym h))

  type_name_names : (t : Expression) (from to : Cursor)
      → is_type_name t ≡ true
      → SpellsExpression text as_type t from to
      → takes_braces text.edition t ≡ true
  unfolding SpellsExpression SpellsForm is_type
  type_name_names (expression_node (name_expression name) span) from to h s = refl
  type_name_names (expression_node (selector_expression e n) span) from to h s = or_left _ s.0.0
  type_name_names (expression_node (index_expression e i) span) from to h s =
      and_true (second_true text.edition s.0.0.0) (and_true s.0.0.1 s.0.0.2)
  type_name_names (expression_node (instance_expression e es) span) from to h s =
      and_true (second_true text.edition s.0.0) (and_true s.0.1.0.1 s.0.1.0.2)
  type_name_names (expression_node _ span) from to h s = absurd (true≢false (sym h))

  other_takes : (t : Expression) → takes_elements t ≡ true → is_type_name t ≡ false → is_literal_type t ≡ true
  other_takes (expression_node (name_expression name) span) h n = absurd (true≢false n)
  other_takes (expression_node (selector_expression e x) span) h n = absurd (true≢false n)
  other_takes (expression_node (index_expression e i) span) h n = absurd (true≢false n)
  other_takes (expression_node (instance_expression e es) span) h n = absurd (true≢false n)
  other_takes (expression_node (array_type x t) span) h n = refl
  other_takes (expression_node (ellipsis_array_type t) span) h n = refl
  other_takes (expression_node (slice_type t) span) h n = refl
  other_takes (expression_node (map_type k t) span) h n = refl
  other_takes (expression_node (channel_type Both t) span) h n = refl
  other_takes (expression_node (channel_type Send t) span) h n = refl
  other_takes (expression_node (channel_type receive_only t) span) h n = absurd (true≢false (sym h))
  other_takes (expression_node (struct_type fs) span) h n = refl
  other_takes (expression_node (interface_type fs) span) h n = refl
  other_takes (expression_node _ span) h n = absurd (true≢false (sym h))

  no_brace : (from to : Cursor) → end_of_type as_expression from to → stands LeftBrace to ≡ false
  no_brace from to s = stands_none is_left_brace LeftBrace to refl (ap (is_next is_left_brace) (sym s.0) ∙ s.1)

  literal_type_end : (t : Expression) (from to : Cursor)
      → is_literal_type t ≡ true
      → SpellsExpression text as_expression t from to
      → stands LeftBrace to ≡ false
  unfolding SpellsExpression SpellsForm
  literal_type_end (expression_node (array_type n t) span) from to h s = no_brace s.0.2.0 to s.0.2.2
  literal_type_end (expression_node (ellipsis_array_type t) span) from to h s = no_brace s.0.2.0 to s.0.2.2
  literal_type_end (expression_node (slice_type t) span) from to h s = no_brace s.0.2.0 to s.0.2.2
  literal_type_end (expression_node (map_type k t) span) from to h s = no_brace s.0.2.2.0 to s.0.2.2.2
  literal_type_end (expression_node (channel_type Both t) span) from to h s = no_brace s.0.2.0 to s.0.2.2
  literal_type_end (expression_node (channel_type Send t) span) from to h s = no_brace s.0.2.0 to s.0.2.2
  literal_type_end (expression_node (channel_type receive_only t) span) from to h s = absurd (true≢false (sym h))
  literal_type_end (expression_node (struct_type fs) span) from to h s = no_brace s.0.2.0 to s.0.2.2
  literal_type_end (expression_node (interface_type fs) span) from to h s = no_brace s.0.2.0 to s.0.2.2
  literal_type_end (expression_node _ span) from to h s = absurd (true≢false (sym h))

  -- How the reader goes on from an expression tells what it gives where that expression begins.
  abbrev pub Arrives : Expression → Type 0
  Arrives e =
      (header : Bool) (from to : Cursor) (wanted : Read Expression)
      → SpellsExpression text as_expression e from to
      → IsPrimary e
      → StandsIn header e
      → expression_depth e ≤ suc below
      → Continues header from e to wanted
      → read_primary text r below header from ≡ wanted

  arrives-literal_type : (t : Expression) → is_literal_type t ≡ true → Arrives t
  arrives-literal_type t l header from to wanted s h stand d more =
      operand_first header t from to wanted (read_typed-alone t from to l s d (literal_type_end t from to l s)) more

  arrives-composite : (t : Expression) (es : Expressions) (span : Span) (b : Bool)
      → is_type_name t ≡ b
      → Arrives t
      → Arrives (expression_node (composite_literal t es) span)
  unfolding SpellsExpression SpellsForm has_bare_literal has_bare_literal_form expression_depth below_expression
  arrives-composite t es span true named arrives header from to wanted s h stand d more =
      let place : Cursor = s.0.1.1.0 in
      let spelled = s.0.1.1.1 in
      let braces = s.0.1.1.2 in
      let plain : header ≡ false = bare_header header (expression_node (composite_literal t es) span) stand named in
      let fits : StandsIn header t = subst (λ b. StandsIn b t) (sym plain) tt in
      let shorter : length to.left < length place.left =
      enclosed LeftBrace RightBrace (elements_longest es (expressions_longest text as_element es)) place to braces in
      arrives header from place wanted (type_name_as_expression t from place named spelled)
      (type_name_primary t named) fits (omega arith)
      (grow header from t (expression_node (composite_literal t es) span) place to
      (read_composite text r below from t place) wanted
      (suffix-composite header from t place braces.0 braces.1 plain (type_name_names t from place named spelled))
      (omega arith) (read_composite-complete t es span from place to braces (omega arith) s.1 s.2) shorter more)
  arrives-composite t es span false other arrives header from to wanted s h stand d more =
      let literal : is_literal_type t ≡ true = other_takes t s.0.1.0 other in
      operand_first header (expression_node (composite_literal t es) span) from to wanted
      (read_typed-literal t es span from s.0.1.1.0 to literal s.0.1.1.1 s.0.1.1.2 (omega arith)
      (omega arith) s.1 s.2) more

  pub primary_arrives : (e : Expression) → Arrives e
  unfolding SpellsExpression SpellsForm has_bare_literal has_bare_literal_form expression_depth below_expression
  primary_arrives (expression_node (name_expression name) span) header from to wanted s h stand d more =
      let spelled : word text name from to = subst (λ place. word text name from place) s.0.2 s.0.1 in
      operand_first header (expression_node (name_expression name) span) from to wanted
      (read_operand-name name span from to spelled s.1 s.2) more
  primary_arrives (expression_node (basic_literal kind) span) header from to wanted s h stand d more =
      operand_first header (expression_node (basic_literal kind) span) from to wanted
      (read_operand-literal kind span from to s.0.1 s.1 s.2) more
  primary_arrives (expression_node (function_literal signature ss braces) span) header from to wanted s h stand d more =
      let word = s.0.1.1 in
      let rest = s.0.1.2 in
      operand_first header (expression_node (function_literal signature ss braces) span) from to wanted
      (read_operand-function (expression_node (function_literal signature ss braces) span) from s.0.1.0 to word
      (read_function-literal signature ss braces span from s.0.1.0 rest.0 to word rest.1 rest.2 (omega arith)
      (omega arith) s.1 s.2)) more
  primary_arrives (expression_node (composite_literal t es) span) header from to wanted s h stand d more =
      arrives-composite t es span (is_type_name t) refl (primary_arrives t) header from to wanted s h stand d more
  primary_arrives (expression_node (literal_value es) span) header from to wanted s h stand d more = absurd s.0.0
  primary_arrives (expression_node (key_value k v) span) header from to wanted s h stand d more =
      let p : as_expression ≡ as_element = s.0.0 in cc
  primary_arrives (expression_node (parenthesized e) span) header from to wanted s h stand d more =
      operand_first header (expression_node (parenthesized e) span) from to wanted
      (read_operand-parenthesized e span from to s.0 (omega arith) s.1 s.2) more
  primary_arrives (expression_node (selector_expression e n) span) header from to wanted s h stand d more =
      let place : Cursor = s.0.1.0 in
      let dot = s.0.1.2.1 in
      let end : s.0.1.2.2.0 ≡ to = s.0.1.2.2.2 in
      let name : identifier text n s.0.1.2.0 to = subst (λ c. identifier text n s.0.1.2.0 c) end s.0.1.2.2.1 in
      let shorter : length to.left < length place.left =
      omega (arith, token_shorter Dot place s.0.1.2.0 dot, identifier_shorter text n s.0.1.2.0 to name) in
      primary_arrives e header from place wanted s.0.1.1 s.0.0 stand (omega arith)
      (grow header from e (expression_node (selector_expression e n) span) place to
      (read_selector text r below from e place) wanted
      (suffix-selector header from e place s.0.1.2.0 to dot name.0.0) (omega arith)
      (read_selector-complete text r below complete e n span from place s.0.1.2.0 to dot name s.1 s.2) shorter more)
  primary_arrives (expression_node (index_expression e i) span) header from to wanted s h stand d more =
      let rule = s.0.1.1 in
      let shorter : length to.left < length rule.0.left =
      enclosed LeftBracket RightBracket (weak (expression_shorter text as_expression i)) rule.0 to rule.2 in
      primary_arrives e header from rule.0 wanted rule.1 s.0.1.0 stand (omega arith)
      (grow header from e (expression_node (index_expression e i) span) rule.0 to
      (read_index text r from e rule.0) wanted (suffix-index header from e rule.0 rule.2.0 rule.2.1)
      (omega arith) (read_index-complete text r below complete e i span from rule.0 to rule.2 (omega arith) s.1 s.2)
      shorter more)
  primary_arrives (expression_node (instance_expression e es) span) header from to wanted s h stand d more =
      let rule = s.0.1.1.1 in
      let shorter : length to.left < length rule.0.left =
      enclosed LeftBracket RightBracket (both (expressions_longest text as_expression es) (after_instance_longest es))
      rule.0 to rule.2 in
      primary_arrives e header from rule.0 wanted rule.1 s.0.1.1.0 stand (omega arith)
      (grow header from e (expression_node (instance_expression e es) span) rule.0 to
      (read_index text r from e rule.0) wanted (suffix-index header from e rule.0 rule.2.0 rule.2.1)
      (omega arith) (read_instance-complete text r below complete e es span from rule.0 to s.0.0 rule.2
      (omega arith) s.1 s.2) shorter more)
  primary_arrives (expression_node (slice_expression e low high most) span) header from to wanted s h stand d more =
      let rule = s.0.1.1 in
      let shorter : length to.left < length rule.0.left =
      enclosed LeftBracket RightBracket
      (both (optional_expression_longest text low)
      (both (weak (token_shorter Colon))
      (both (optional_expression_longest text high)
      (third_bound_longest most (optional_expression_longest text most))))) rule.0 to rule.2 in
      primary_arrives e header from rule.0 wanted rule.1 s.0.1.0 stand (omega arith)
      (grow header from e (expression_node (slice_expression e low high most) span) rule.0 to
      (read_index text r from e rule.0) wanted (suffix-index header from e rule.0 rule.2.0 rule.2.1)
      (omega arith) (read_slice-complete text r below complete e low high most span from rule.0 to rule.2 (omega arith) (omega arith)
      (omega arith) s.1 s.2) shorter more)
  primary_arrives (expression_node (type_assertion e t) span) header from to wanted s h stand d more =
      let rule = s.0.1.1 in
      let shorter : length to.left < length rule.0.left =
      first_then (token_shorter Dot)
      (weak (enclosed LeftParenthesis RightParenthesis (weak (expression_shorter text as_type t)))) rule.0 to
      rule.2 in
      primary_arrives e header from rule.0 wanted rule.1 s.0.1.0 stand (omega arith)
      (grow header from e (expression_node (type_assertion e t) span) rule.0 to
      (read_assertion text r below from e rule.0) wanted
      (suffix-assertion header from e t rule.0 rule.2.0 to rule.2.1 rule.2.2) (omega arith)
      (read_assertion-complete e t span from rule.0 rule.2.0 to rule.2.1 rule.2.2 (omega arith) s.1 s.2) shorter
      more)
  primary_arrives (expression_node (call_expression e es ellipsis) span) header from to wanted s h stand d more =
      let rule = s.0.1.1 in
      let shorter : length to.left < length rule.0.left =
      enclosed LeftParenthesis RightParenthesis
      (arguments_longest es ellipsis (expressions_longest text as_expression es)) rule.0 to rule.2 in
      primary_arrives e header from rule.0 wanted rule.1 s.0.1.0 stand (omega arith)
      (grow header from e (expression_node (call_expression e es ellipsis) span) rule.0 to
      (read_call text r below from e rule.0) wanted (suffix-call header from e rule.0 rule.2.0 rule.2.1)
      (omega arith) (read_call-complete e es ellipsis span from rule.0 to rule.2 (omega arith) s.1 s.2) shorter
      more)
  primary_arrives (expression_node (function_type signature) span) header from to wanted s h stand d more =
      let end : s.0.2.0 ≡ to = s.0.2.2.0 in
      let spelled : SpellsSignature text signature s.0.0 to =
      subst (λ place. SpellsSignature text signature s.0.0 place) end s.0.2.1 in
      operand_first header (expression_node (function_type signature) span) from to wanted
      (read_operand-function (expression_node (function_type signature) span) from s.0.0 to s.0.1
      (read_function-type signature span from s.0.0 to s.0.1 spelled (no_brace s.0.2.0 to s.0.2.2)
      (omega arith) s.1 s.2)) more
  primary_arrives (expression_node (array_type n t) span) header from to wanted s h stand d more =
      arrives-literal_type (expression_node (array_type n t) span) refl header from to wanted s h stand d more
  primary_arrives (expression_node (ellipsis_array_type t) span) header from to wanted s h stand d more =
      arrives-literal_type
      (expression_node (ellipsis_array_type t) span) refl header from to wanted s h stand d more
  primary_arrives (expression_node (slice_type t) span) header from to wanted s h stand d more =
      arrives-literal_type (expression_node (slice_type t) span) refl header from to wanted s h stand d more
  primary_arrives (expression_node (map_type k t) span) header from to wanted s h stand d more =
      arrives-literal_type (expression_node (map_type k t) span) refl header from to wanted s h stand d more
  primary_arrives (expression_node (channel_type Both t) span) header from to wanted s h stand d more =
      arrives-literal_type (expression_node (channel_type Both t) span) refl header from to wanted s h stand d more
  primary_arrives (expression_node (channel_type Send t) span) header from to wanted s h stand d more =
      arrives-literal_type (expression_node (channel_type Send t) span) refl header from to wanted s h stand d more
  primary_arrives (expression_node (channel_type receive_only t) span) header from to wanted s h stand d more =
      absurd s.0.1
  primary_arrives (expression_node (struct_type fs) span) header from to wanted s h stand d more =
      arrives-literal_type (expression_node (struct_type fs) span) refl header from to wanted s h stand d more
  primary_arrives (expression_node (interface_type fs) span) header from to wanted s h stand d more =
      arrives-literal_type (expression_node (interface_type fs) span) refl header from to wanted s h stand d more
  primary_arrives (expression_node (star_expression e) span) header from to wanted s h stand d more =
      absurd (omega arith)
  primary_arrives (expression_node (unary_expression op e) span) header from to wanted s h stand d more =
      absurd (omega arith)
  primary_arrives (expression_node (binary_expression op left right) span) header from to wanted s h stand d more =
      absurd (omega (arith, operator_low op))

  no_suffix : (header : Bool) (least : ℕ) (from : Cursor) (e : Expression) (to : Cursor) (b : Bool)
      → stands Dot to ≡ b
      → CannotGoOn header least to
      → read_suffix text r below header from e to ≡ None
  no_suffix header least from e to true dot c = when_true _ dot (when_true _ (c.dot dot) refl)
  no_suffix header least from e to false dot c =
      when_false _ dot
      (when_false _ c.bracket
      (when_false _ c.parenthesis
      (when_false _ (no_literal_here header c.brace) refl)))
    where
      no_literal_here : (h : Bool)
          → (h ≡ false → stands LeftBrace to ≡ false)
          → (stands LeftBrace to && (not h && takes_braces text.edition e)) ≡ false
      no_literal_here true brace = and_not _ refl
      no_literal_here false brace = and_false _ (brace refl)

  pub read_primary-complete : (header : Bool) (least : ℕ) (from to : Cursor) (e : Expression)
      → SpellsExpression text as_expression e from to
      → IsPrimary e
      → StandsIn header e
      → expression_depth e ≤ suc below
      → CannotGoOn header least to
      → read_primary text r below header from ≡ Some (e, to)
  unfolding read_suffixes
  read_primary-complete header least from to e s h stand d c =
      primary_arrives e header from to (Some (e, to)) s h stand d stops
    where
      stops : (n : ℕ) → length to.left < n → read_suffixes text r below header from n e to ≡ Some (e, to)
      stops zero short = absurd (omega arith)
      stops (suc n) short =
          ap (go_on text r below (read_suffixes text r below header from n) e to)
          (no_suffix header least from e to (stands Dot to) refl c)
