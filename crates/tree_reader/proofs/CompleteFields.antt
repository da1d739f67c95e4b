-- The reader gives the lines of struct types and interface types that are spelled.
use Rattle.std.proofs.lemmas.Bool.{and_parts}
use Rattle.std.proofs.Common.{◌⊎◌}
use Rattle.meaning.specs.Cursor.{word, start_at}
use Rattle.tree_reader.specs.Reader.{joins_terms, is_no_name, read_indexed, is_second, opens_index}
use Rattle.tree_reader.proofs.Steps.{stands-sound}
use Rattle.tree_reader.proofs.Begins.{begins_expression, expression_begins}
use Rattle.tree_reader.proofs.CompleteLists.{ends_expression}
use Rattle.tree_reader.proofs.CompleteIndexes.{second_true}
use Rattle.tree_reader.proofs.CompleteInstances.{end_is_term, read_constraint-complete, constraint_begins, constraint_no_brace}
use Rattle.tree_reader.proofs.CompleteSignatures.{opens_there, is_indexed, array_there, instance_there}
use Rattle.std.proofs.Common.{◌≡◌, ℕ, zero, suc, ◌≤◌, ◌<◌, Bool, true, false, true≢false, List, [], ◌∷◌, length, Option, Some, None, refl, sym, subst, ap, ◌∙◌, inl, inr, arith}
use Rattle.std.specs.Prelude.{not, ◌&&◌, ◌||◌}
use Rattle.lexer.specs.Spelling.{same_kind}
use Rattle.lexer.specs.declared.token.TokenKind.{TokenKind}
use Rattle.lexer.specs.declared.token.TokenKind.TheVariants.{Identifier as identifier_kind, InterpretedString as interpreted_string_token, RawString as raw_string_token, Star, LeftParenthesis, RightParenthesis, RightBrace, Comma, Semicolon, Dot, LeftBracket}
use Rattle.tree.specs.declared.span.Span.{Span}
use Rattle.tree.specs.Syntax.{Identifier, TypeName, Expression, Signature, signature_of, Fields, no_field, fields_and, embedded_and, method_and, expression_node, name_expression, selector_expression, index_expression, instance_expression, Expressions, no_expression, expression_and, element_and}
use Rattle.tree.specs.Depth.{expression_depth, signature_depth, fields_depth}
use Rattle.meaning.specs.Cursor.{GoText, Cursor, TakesToken, ◌⨾◌, token, string_token, only_if, is_next, identifier, identifiers, more_identifiers, semicolon, spanning}
use Rattle.meaning.specs.OperatorTokens.{can_begin_type}
use Rattle.meaning.specs.Grammar.{as_type, in_braces, Owner, of_struct, of_interface, optional_tag, type_name, qualifier, SpellsExpression, SpellsSignature, SpellsFields, as_expression, as_constraint, IsSecond, SpellsForm, SpellsExpressions}
use Rattle.tree_reader.specs.Reading.{stands, behind, steps, span_between, read_identifier}
use Rattle.tree_reader.specs.Reader.{Readers, is_string, is_end, follows_embedded, read_type_name, read_tag, read_struct_field, read_interface_field, read_field, read_fields, read_braced_fields}
use Rattle.tree_reader.specs.Claims.{AreComplete}
use Rattle.tree_reader.proofs.Taken.{step, when_true, when_false, and_true, and_not, or_left, or_right, or_false, take_gives, stands_gives, stands_other, behind_gives, next_gives, stands_not, next_implied, next_excluded, take_semicolon_gives, before_semicolon, span_is, read_identifier-complete, read_identifiers-complete, and_false, only_true}
use Rattle.tree_reader.proofs.Lengths.{token_shorter, expression_shorter, identifier_shorter, identifiers_shorter, type_name_shorter, optional_tag_longest, signature_longest, semicolon_longest}
use Rattle.tree_reader.proofs.Begins.{type_begins}
use Rattle.tree_reader.proofs.CompleteSignatures.{only_if_stands, only_if_past, read_signature-complete}
use Rattle.tree_reader.proofs.CompleteSignatures.{moved_name}
use Rattle.tree_reader.proofs.CompleteLists.{closing_is_end}
use Rattle.tree_reader.proofs.Lengths.{first_then, then_last, both, weak, chosen_longest, same_length}
use Rattle.meaning.specs.WellFormed.{is_name, names_type, is_instance, is_constraint}

-- what follows the name of an embedded type
abbrev ends_embedded : TokenKind → Bool
ends_embedded Semicolon = true
ends_embedded RightParenthesis = true
ends_embedded RightBrace = true
ends_embedded interpreted_string_token = true
ends_embedded raw_string_token = true
ends_embedded _ = false

end_follows : (k : TokenKind) → (not (ends_embedded k) || follows_embedded k) ≡ true
end_follows identifier_kind = refl
end_follows _ = refl

line_end : (k : TokenKind) → (not (is_end k) || ends_embedded k) ≡ true
line_end identifier_kind = refl
line_end _ = refl

line_end_no_string : (k : TokenKind) → (not (is_end k) || not (is_string k)) ≡ true
line_end_no_string identifier_kind = refl
line_end_no_string _ = refl

embedded_begins_no_type : (k : TokenKind) → (not (ends_embedded k) || not (can_begin_type k)) ≡ true
embedded_begins_no_type identifier_kind = refl
embedded_begins_no_type _ = refl

end_joins_none : (k : TokenKind) → (not (ends_embedded k) || not (joins_terms k)) ≡ true
end_joins_none identifier_kind = refl
end_joins_none _ = refl

end_ends_expression : (k : TokenKind) → (not (is_end k) || ends_expression k) ≡ true
end_ends_expression identifier_kind = refl
end_ends_expression _ = refl

type_is_not_embedded : (k : TokenKind) → (not (can_begin_type k) || not (follows_embedded k)) ≡ true
type_is_not_embedded identifier_kind = refl
type_is_not_embedded _ = refl

-- a string's token stands here
record IsString (from to : Cursor) : Type 0 where
  next : is_next is_string from ≡ true
  embedded : is_next ends_embedded from ≡ true
  past : behind from ≡ to

string-complete : (from to : Cursor) → string_token from to → IsString from to
string-complete from to (inl t) =
    record { next = next_gives t is_string; embedded = next_gives t ends_embedded; past = behind_gives t }
string-complete from to (inr t) =
    record { next = next_gives t is_string; embedded = next_gives t ends_embedded; past = behind_gives t }

tag_follows : (tag : Option Span) (from to : Cursor)
    → optional_tag tag from to
    → is_next is_end to ≡ true
    → is_next ends_embedded from ≡ true
tag_follows None from to p h = ap (is_next ends_embedded) p ∙ next_implied is_end ends_embedded to line_end h
tag_follows (Some span) from to s h = let k : IsString from to = string-complete from to s.0 in k.embedded

module _ (text : GoText) where
  names_then_type : (ns : List Identifier) (from to : Cursor)
      → more_identifiers text ns from to
      → is_next can_begin_type to ≡ true
      → is_next follows_embedded from ≡ false
  names_then_type [] from to p h =
      ap (is_next follows_embedded) p ∙ next_excluded can_begin_type follows_embedded to type_is_not_embedded h
  names_then_type (n ∷ ns) from to s h = next_gives s.1 follows_embedded

  -- the first token of the name of a type, and what follows it
  record IsEmbedded (from : Cursor) : Type 0 where
    after : Cursor
    name : TakesToken identifier_kind from after
    follows : is_next follows_embedded after ≡ true

  embedded : (q : Option Identifier) (name : Identifier) (from to : Cursor)
      → (qualifier text q ⨾ identifier text name) from to
      → is_next ends_embedded to ≡ true
      → IsEmbedded from
  embedded None name from to s h =
      let first : identifier text name from to = moved_name text name from s.0 to s.1 s.2 in
      record { after = to; name = first.0.0; follows = next_implied ends_embedded follows_embedded to end_follows h }
  embedded (Some q) name from to s h =
      record { after = s.1.0; name = s.1.1.0.0; follows = next_gives s.1.2 follows_embedded }

  signature_begins : (signature : Signature) (from to : Cursor)
      → SpellsSignature text signature from to
      → stands LeftParenthesis from ≡ true
  unfolding SpellsSignature
  signature_begins (signature_of ps rs brackets) from to s = stands_gives s.1.1.1

  -- behind a type's name that an interface embeds no constraint goes on
  name_alone : (q : Option Identifier) (name : Identifier) (from to : Cursor)
      → (qualifier text q ⨾ identifier text name) from to
      → is_next ends_embedded to ≡ true
      → is_no_name from ≡ false
  unfolding same_kind
  name_alone None name from to s h =
      let first : identifier text name from to = moved_name text name from s.0 to s.1 s.2 in
      let no_dot : stands Dot (behind from) ≡ false =
      ap (stands Dot) (behind_gives first.0.0) ∙ stands_not ends_embedded Dot to refl h in
      or_false (ap not (stands_gives first.0.0))
      (ap (is_next joins_terms) (when_false _ no_dot (behind_gives first.0.0))
      ∙ next_excluded ends_embedded joins_terms to end_joins_none h)
  name_alone (Some q) name from to s h =
      let dot : stands Dot (behind from) ≡ true = ap (stands Dot) (behind_gives s.1.1.0.0) ∙ stands_gives s.1.2 in
      let end : behind (behind (behind from)) ≡ to =
      ap (λ c. behind (behind c)) (behind_gives s.1.1.0.0) ∙ (ap behind (behind_gives s.1.2) ∙ behind_gives s.2.0.0) in
      or_false (ap not (stands_gives s.1.1.0.0))
      (ap (is_next joins_terms) (when_true _ dot end) ∙ next_excluded ends_embedded joins_terms to end_joins_none h)

  -- the name of a type, and where it stands
  type_named : (e : Expression) (from to : Cursor)
      → names_type e ≡ true
      → SpellsExpression text as_expression e from to
      → (n : TypeName) × type_name text n from to
  unfolding SpellsExpression SpellsForm
  type_named (expression_node (name_expression name) span) from to h s =
      let spelled : word text name from to = subst (λ c. word text name from c) s.0.2 s.0.1 in
      let n : Identifier = record { text = name; span = span } in
      (record { qualifier = None; name = n; span = span }, ((from, refl, (spelled, s.1, s.2)), s.1, s.2))
  type_named (expression_node (selector_expression (expression_node (name_expression name) at) m) span) from to h s =
      let e = s.0.1.1 in
      let spelled : word text name from s.0.1.0 = subst (λ c. word text name from c) e.0.2 e.0.1 in
      let q : Identifier = record { text = name; span = at } in
      let last : identifier text m s.0.1.2.0 to = subst (λ c. identifier text m s.0.1.2.0 c) s.0.1.2.2.2 s.0.1.2.2.1 in (
        record { qualifier = Some q; name = m; span = span },
        ((s.0.1.2.0, (s.0.1.0, (spelled, e.1, e.2), s.0.1.2.1), last), s.1, s.2),
      )
  type_named (expression_node (selector_expression (expression_node _ at) m) span) from to h s = absurd (true≢false (sym h))
  type_named (expression_node _ span) from to h s = absurd (true≢false (sym h))

  -- an instance: the name of a type, and brackets behind it
  record IsInstance (t : Expression) (from to : Cursor) : Type 0 where
    place : Cursor
    inner : Cursor
    name : TypeName
    named : type_name text name from place
    bracket : TakesToken LeftBracket place inner
    begins : is_next begins_expression inner ≡ true

  first_begins : (es : Expressions) (from to : Cursor)
      → SpellsExpressions text as_expression es from to
      → is_next begins_expression from ≡ true
  unfolding SpellsExpressions
  first_begins no_expression from to s = absurd s
  first_begins (expression_and e es) from to s = expression_begins text e from s.0 s.1

  instance_parts : (t : Expression) (from to : Cursor)
      → is_instance t ≡ true
      → SpellsExpression text as_type t from to
      → IsInstance t from to
  unfolding SpellsExpression SpellsForm
  instance_parts (expression_node (index_expression e i) span) from to h s =
      let rule = s.0.1.1 in
      let n = type_named e from rule.0 s.0.0.1 rule.1 in
      record {
        place = rule.0;
        inner = rule.2.0;
        name = n.0;
        named = n.1;
        bracket = rule.2.1;
        begins = expression_begins text i rule.2.0 rule.2.2.0 rule.2.2.1;
      }
  instance_parts (expression_node (instance_expression e es) span) from to h s =
      let rule = s.0.1.1.1 in
      let n = type_named e from rule.0 s.0.1.0.1 rule.1 in
      record {
        place = rule.0;
        inner = rule.2.0;
        name = n.0;
        named = n.1;
        bracket = rule.2.1;
        begins = first_begins es rule.2.0 rule.2.2.1.0 rule.2.2.1.1;
      }
  instance_parts (expression_node _ span) from to h s = absurd (true≢false (sym h))

  -- with a name, and behind it a dot or brackets
  instance_starts : (n : TypeName) (from place inner : Cursor)
      → type_name text n from place
      → TakesToken LeftBracket place inner
      → (after : Cursor) × TakesToken identifier_kind from after
      × ((stands Dot after ≡ true) ⊎ (after ≡ place))
  instance_starts n from place inner s t = by_qualifier n.qualifier s.0 where
    by_qualifier : (q : Option Identifier)
        → (qualifier text q ⨾ identifier text n.name) from place
        → (after : Cursor) × TakesToken identifier_kind from after
        × ((stands Dot after ≡ true) ⊎ (after ≡ place))
    by_qualifier None h =
        let first : identifier text n.name from place = moved_name text n.name from h.0 place h.1 h.2 in
        (place, first.0.0, inr refl)
    by_qualifier (Some q) h = (h.1.0, h.1.1.0.0, inl (stands_gives h.1.2))

  module _ (r : Readers) (below : ℕ) (complete : AreComplete text below r) where
    read_type_name-by : (q : Option Identifier) (name : Identifier) (span : Span) (from to : Cursor)
        → spanning span (qualifier text q ⨾ identifier text name) from to
        → stands Dot to ≡ false
        → read_type_name text r from ≡ Some (record { qualifier = q; name = name; span = span }, to)
    unfolding read_type_name
    read_type_name-by None name span from to s e =
        step _ (read_identifier-complete text name from to (moved_name text name from s.0.0 to s.0.1 s.0.2))
        (when_false _ e (λ i. Some (
          record { qualifier = None; name = name; span = span_is span from to s.1 s.2 i },
          to,
        )))
    read_type_name-by (Some q) name span from to s e =
        step _ (read_identifier-complete text q from s.0.1.0 s.0.1.1)
        (when_true _ (stands_gives s.0.1.2)
        (step _ (ap (read_identifier text) (behind_gives s.0.1.2)
        ∙ read_identifier-complete text name s.0.0 to s.0.2)
        (λ i. Some (record { qualifier = Some q; name = name; span = span_is span from to s.1 s.2 i }, to))))

    read_type_name-complete : (n : TypeName) (from to : Cursor)
        → type_name text n from to
        → stands Dot to ≡ false
        → read_type_name text r from ≡ Some (n, to)
    read_type_name-complete n from to s e = read_type_name-by n.qualifier n.name n.span from to s e

    read_tag-complete : (tag : Option Span) (from to : Cursor)
        → optional_tag tag from to
        → is_next is_end to ≡ true
        → read_tag text r from ≡ (tag, to)
    read_tag-complete None from to p h =
        when_false _ (ap (is_next is_string) p ∙ next_excluded is_end is_string to line_end_no_string h)
        (λ i. (None, p i))
    read_tag-complete (Some span) from to s h =
        let k : IsString from to = string-complete from to s.0 in
        let ends : (Some (span_between from (behind from)), behind from) ≡ (Some (span_between from to), to) =
        ap (λ place. (Some (span_between from place), place)) k.past in
        when_true _ k.next (ends ∙ (λ i. (Some (span_is span from to s.1 s.2 i), to)))

    -- names and their type, where it is no array behind one name, as it is read
    plain_line : (n : Identifier) (ns : List Identifier) (t : Expression) (tag : Option Span) (span : Span) (from to : Cursor)
        → spanning span (identifiers text (n ∷ ns) ⨾ SpellsExpression text as_type t ⨾ optional_tag tag) from to
        → expression_depth t ≤ below
        → is_next is_end to ≡ true
        → is_indexed text from ≡ false
        → read_struct_field text r from ≡ Some (fields_and (n ∷ ns) t tag span, to)
    unfolding read_struct_field same_kind
    plain_line n ns t tag span from to s d h test =
        let after : Cursor = s.0.1.0 in
        let name : identifier text n from after = s.0.1.1 in
        let begins : is_next can_begin_type s.0.0 ≡ true = type_begins text t s.0.0 s.0.2.0 s.0.2.1 in
        let no_embedded : (stands Star from || (stands identifier_kind from && is_next follows_embedded
        (behind from))) ≡ false =
        or_false (stands_other name.0.0 Star refl)
        (and_not _ (ap (is_next follows_embedded) (behind_gives name.0.0)
        ∙ names_then_type ns after s.0.0 s.0.1.2 begins)) in
        when_false _ test
        (when_false _ no_embedded
        (step _ (read_identifiers-complete text (n ∷ ns) from s.0.0 s.0.1
        (stands_not can_begin_type Comma s.0.0 refl begins))
        (step _ (complete.type s.0.0 s.0.2.0 t s.0.2.1 d)
        (ap (λ (found : Option Span × Cursor). Some (
          fields_and (n ∷ ns) t found.0
              (span_between from found.1),
          found.1,
        )) (read_tag-complete tag s.0.2.0 to s.0.2.2 h)
        ∙ (λ i. Some (fields_and (n ∷ ns) t tag (span_is span from to s.1 s.2 i), to))))))

    -- one name and an array, as it is read
    array_line : (n : Identifier) (t : Expression) (tag : Option Span) (span : Span) (from middle end to : Cursor)
        → identifier text n from middle
        → SpellsExpression text as_type t middle end
        → optional_tag tag end to
        → span.start ≡ start_at from
        → span.end ≡ to.end
        → expression_depth t ≤ below
        → is_next is_end to ≡ true
        → is_indexed text from ≡ true
        → read_struct_field text r from ≡ Some (fields_and (n ∷ []) t tag span, to)
    unfolding read_struct_field
    array_line n t tag span from middle end to name s tagged p q d h test =
        let places = (and_parts (is_second text.edition) _ test).1 in
        let opens = ap opens_index (sym (behind_gives name.0.0)) ∙ (and_parts (stands identifier_kind from) _ places).1 in
        when_true _ test
        (step _ (array_there text r below complete n t from middle end name s opens d)
        (ap (λ (found : Option Span × Cursor). Some (
          fields_and (n ∷ []) t found.0
              (span_between from found.1),
          found.1,
        )) (read_tag-complete tag end to tagged h)
        ∙ (λ i. Some (fields_and (n ∷ []) t tag (span_is span from to p q i), to))))

    -- behind a name and a comma no brackets open
    several : (n x : Identifier) (xs : List Identifier) (from end : Cursor)
        → identifiers text (n ∷ (x ∷ xs)) from end
        → is_indexed text from ≡ false
    unfolding same_kind
    several n x xs from end s =
        and_not _ (and_not _ (ap opens_index (behind_gives s.1.0.0) ∙ and_false _ (stands_other s.2.1 LeftBracket refl)))

    struct_line : (ns : List Identifier) (t : Expression) (tag : Option Span) (span : Span) (from to : Cursor)
        → spanning span (identifiers text ns ⨾ SpellsExpression text as_type t ⨾ optional_tag tag) from to
        → expression_depth t ≤ below
        → is_next is_end to ≡ true
        → read_struct_field text r from ≡ Some (fields_and ns t tag span, to)
    struct_line [] t tag span from to s d h = absurd s.0.1
    struct_line (n ∷ []) t tag span from to s d h = by_test (is_indexed text from) refl where
      by_test : (b : Bool) → is_indexed text from ≡ b → read_struct_field text r from ≡ Some (fields_and (n ∷ []) t tag span, to)
      by_test true test =
          let name : identifier text n from s.0.0 = subst (λ c. identifier text n from c) s.0.1.2 s.0.1.1 in
          array_line n t tag span from s.0.0 s.0.2.0 to name s.0.2.1 s.0.2.2 s.1 s.2 d h test
      by_test false test = plain_line n [] t tag span from to s d h test
    struct_line (n ∷ (x ∷ xs)) t tag span from to s d h =
        plain_line n (x ∷ xs) t tag span from to s d h (several n x xs from s.0.0 s.0.1)

    embedded_line : (star : Bool) (n : TypeName) (tag : Option Span) (span : Span) (from to : Cursor)
        → spanning span (only_if star (token Star) ⨾ type_name text n ⨾ optional_tag tag) from to
        → is_next is_end to ≡ true
        → read_struct_field text r from ≡ Some (embedded_and star n tag span, to)
    unfolding read_struct_field same_kind
    embedded_line star n tag span from to s h =
        let after : is_next ends_embedded s.0.2.0 ≡ true = tag_follows tag s.0.2.0 to s.0.2.2 h in
        let name : IsEmbedded s.0.0 = embedded n.qualifier n.name s.0.0 s.0.2.0 s.0.2.1.0 after in
        let no_star : stands Star s.0.0 ≡ false = stands_other name.name Star refl in
        let named : is_next follows_embedded (behind s.0.0) ≡ true =
        ap (is_next follows_embedded) (behind_gives name.name) ∙ name.follows in
        when_false _ (no_index star s.0.1 (ap opens_index (behind_gives name.name)
        ∙ and_false _ (stands_not follows_embedded LeftBracket name.after refl name.follows)))
        (when_true _ (begins star s.0.1 (and_true (stands_gives name.name) named))
        (step _ (ap (read_type_name text r) (only_if_past Star star from s.0.0 s.0.1 no_star)
        ∙ read_type_name-complete n s.0.0 s.0.2.0 s.0.2.1 (stands_not ends_embedded Dot s.0.2.0 refl after))
        (when_false _ (and_not _ (stands_not ends_embedded LeftBracket s.0.2.0 refl after))
        (ap (λ (found : Option Span × Cursor). Some (
          embedded_and (stands Star from) n found.0
              (span_between from found.1),
          found.1,
        )) (read_tag-complete tag s.0.2.0 to s.0.2.2 h)
        ∙ (λ i. Some (
          embedded_and (only_if_stands Star star from s.0.0 s.0.1 no_star i) n tag
              (span_is span from to s.1 s.2 i),
          to,
        ))))))
      where
        no_index : (b : Bool)
            → only_if b (token Star) from s.0.0
            → opens_index (behind s.0.0) ≡ false
            → is_indexed text from ≡ false
        no_index true t e = and_not _ (and_false _ (stands_other t identifier_kind refl))
        no_index false p e = and_not _ (and_not _ (ap (λ place. opens_index (behind place)) p ∙ e))

        begins : (b : Bool)
            → only_if b (token Star) from s.0.0
            → (stands identifier_kind s.0.0 && is_next follows_embedded (behind s.0.0)) ≡ true
            → (stands Star from || (stands identifier_kind from && is_next follows_embedded (behind from))) ≡ true
        begins true t e = or_left _ (stands_gives t)
        begins false p e =
            or_right _ (ap (λ place. stands identifier_kind place && is_next follows_embedded (behind place)) p ∙ e)

    -- an instance that a struct embeds
    instance_line : (star : Bool) (t : Expression) (tag : Option Span) (span : Span) (from to : Cursor)
        → IsSecond text.edition
        → is_instance t ≡ true
        → spanning span (only_if star (token Star) ⨾ SpellsExpression text as_type t ⨾ optional_tag tag) from to
        → expression_depth t ≤ below
        → is_next is_end to ≡ true
        → read_struct_field text r from ≡ Some (element_and star t tag span, to)
    unfolding read_struct_field same_kind
    instance_line star t tag span from to second instance s d h = by_test (is_indexed text from) refl where
      parts : IsInstance t s.0.0 s.0.2.0
      parts = instance_parts t s.0.0 s.0.2.0 instance s.0.2.1

      first : (m : Cursor) × TakesToken identifier_kind s.0.0 m × ((stands Dot m ≡ true) ⊎ (m ≡ parts.place))
      first = instance_starts parts.name s.0.0 parts.place parts.inner parts.named parts.bracket

      no_star : stands Star s.0.0 ≡ false
      no_star = stands_other first.1 Star refl

      after : is_next ends_embedded s.0.2.0 ≡ true
      after = tag_follows tag s.0.2.0 to s.0.2.2 h

      -- an instance of a name alone without a star is read at once
      at_once : (b : Bool)
          → only_if b (token Star) from s.0.0
          → is_indexed text from ≡ true
          → (read_indexed text r from ≡ Some ((None, t), s.0.2.0)) × (b ≡ false)
      at_once true p test =
          let places = (and_parts (is_second text.edition) _ test).1 in
          absurd (true≢false (sym (and_parts (stands identifier_kind from) _ places).0 ∙ stands_other p identifier_kind refl))
      at_once false p test =
          let spelled = subst (λ (c : Cursor). SpellsExpression text as_type t c s.0.2.0) (sym p) s.0.2.1 in (
            instance_there text r below complete t from s.0.2.0 spelled
                (next_excluded ends_embedded can_begin_type s.0.2.0 embedded_begins_no_type after) test d,
            refl,
          )

      -- else with a star, or with a dot
      embeds : (b : Bool)
          → only_if b (token Star) from s.0.0
          → is_indexed text from ≡ false
          → (stands Star from || (stands identifier_kind from && is_next follows_embedded (behind from))) ≡ true
      embeds true p test = or_left _ (stands_gives p)
      embeds false p test =
          or_right _ (ap (λ place. stands identifier_kind place && is_next follows_embedded (behind place)) p
          ∙ and_true (stands_gives first.1) (ap (is_next follows_embedded) (behind_gives first.1) ∙ elim first.2 [
            | inl dot ↦ next_gives (stands-sound Dot first.0 dot) follows_embedded
            | inr same ↦ absurd (true≢false (sym (and_true (second_true text.edition second)
                (ap (λ place. stands identifier_kind place && opens_index (behind place)) p
                ∙ and_true (stands_gives first.1) (ap opens_index (behind_gives first.1 ∙ same)
                ∙ opens_there text parts.place parts.inner parts.bracket parts.begins))) ∙ test))
          ]))

      by_test : (b : Bool) → is_indexed text from ≡ b → read_struct_field text r from ≡ Some (element_and star t tag span, to)
      by_test true test =
          let found = at_once star s.0.1 test in
          when_true _ test
          (step _ found.0
          (ap (λ (found : Option Span × Cursor). Some (
            element_and false t found.0
                (span_between from found.1),
            found.1,
          )) (read_tag-complete tag s.0.2.0 to s.0.2.2 h)
          ∙ (λ i. Some (element_and (sym found.1 i) t tag (span_is span from to s.1 s.2 i), to))))
      by_test false test =
          when_false _ test
          (when_true _ (embeds star s.0.1 test)
          (step _ (ap (read_type_name text r) (only_if_past Star star from s.0.0 s.0.1 no_star)
          ∙ read_type_name-complete parts.name s.0.0 parts.place parts.named (stands_other parts.bracket Dot refl))
          (when_true _ (and_true (second_true text.edition second) (stands_gives parts.bracket))
          (step _ (ap r.read_type (only_if_past Star star from s.0.0 s.0.1 no_star)
          ∙ complete.type s.0.0 s.0.2.0 t s.0.2.1 d)
          (only_true instance
          (ap (λ (found : Option Span × Cursor). Some (
            element_and (stands Star from) t found.0
                (span_between from found.1),
            found.1,
          )) (read_tag-complete tag s.0.2.0 to s.0.2.2 h)
          ∙ (λ i. Some (
            element_and (only_if_stands Star star from s.0.0 s.0.1 no_star i) t tag
                (span_is span from to s.1 s.2 i),
            to,
          ))))))))

    -- what a constraint that is no name begins with
    constraint_line : (c : Expression) (span : Span) (from to : Cursor)
        → IsSecond text.edition
        → is_constraint c ≡ true
        → names_type c ≡ false
        → spanning span (SpellsExpression text as_constraint c) from to
        → expression_depth c ≤ below
        → is_next is_end to ≡ true
        → read_interface_field text r from ≡ Some (element_and false c None span, to)
    unfolding read_interface_field
    constraint_line c span from to second fits no_name s d h =
        let ends : is_next ends_expression to ≡ true = next_implied is_end ends_expression to end_ends_expression h in
        let begins = constraint_begins text c from to fits s.0 (λ names. absurd (true≢false (sym names ∙ no_name)))
        (end_is_term to ends) in
        when_false _ begins.0
        (when_true _ (and_true (second_true text.edition second) begins.1)
        (step _ (read_constraint-complete text r below complete c from to fits s.0 d ends)
        (only_true (ap not no_name)
        (λ i. Some (element_and false c None (span_is span from to s.1 s.2 i), to)))))

    method_line : (n : Identifier) (signature : Signature) (span : Span) (from to : Cursor)
        → spanning span (identifier text n ⨾ SpellsSignature text signature) from to
        → signature_depth signature ≤ below
        → read_interface_field text r from ≡ Some (method_and n signature span, to)
    unfolding read_interface_field
    method_line n signature span from to s d =
        when_true _ (and_true (stands_gives s.0.1.0.0) (ap (stands LeftParenthesis) (behind_gives s.0.1.0.0)
        ∙ signature_begins signature s.0.0 to s.0.2))
        (step _ (read_identifier-complete text n from s.0.0 s.0.1)
        (step _ (read_signature-complete text r below complete signature s.0.0 to s.0.2 d)
        (λ i. Some (method_and n signature (span_is span from to s.1 s.2 i), to))))

    interface_line : (n : TypeName) (span : Span) (from to : Cursor)
        → spanning span (type_name text n) from to
        → is_next is_end to ≡ true
        → read_interface_field text r from ≡ Some (embedded_and false n None span, to)
    unfolding read_interface_field
    interface_line n span from to s h =
        let after : is_next ends_embedded to ≡ true = next_implied is_end ends_embedded to line_end h in
        let name : IsEmbedded from = embedded n.qualifier n.name from to s.0.0 after in
        let named : is_next follows_embedded (behind from) ≡ true =
        ap (is_next follows_embedded) (behind_gives name.name) ∙ name.follows in
        when_false _ (and_not _ (stands_not follows_embedded LeftParenthesis (behind from) refl named))
        (when_false _ (and_not _ (name_alone n.qualifier n.name from to s.0.0 after))
        (step _ (read_type_name-complete n from to s.0 (stands_not ends_embedded Dot to refl after))
        (λ i. Some (embedded_and false n None (span_is span from to s.1 s.2 i), to))))

    -- a line, what follows it, and the other lines
    line_first : (owner : Owner) (n : ℕ) (line : Fields → Fields) (fs : Fields) (from to next close : Cursor)
        → read_field text r owner from ≡ Some (line, to)
        → stands RightBrace from ≡ false
        → semicolon to next
        → read_fields text r owner n next ≡ Some (fs, close)
        → read_fields text r owner (suc n) from ≡ Some (line fs, close)
    unfolding read_fields
    line_first owner n line fs from to next close read begins end more =
        when_false _ begins (step _ read (step _ (take_semicolon_gives end) (step _ more refl)))

    pub read_fields-complete : (owner : Owner) (n : ℕ) (fs : Fields) (from close to : Cursor)
        → SpellsFields text owner fs from close
        → TakesToken RightBrace close to
        → fields_depth fs ≤ below
        → length from.left < n
        → read_fields text r owner n from ≡ Some (fs, close)
    unfolding read_fields SpellsFields fields_depth same_kind
    read_fields-complete owner zero fs from close to s t d short = absurd (omega arith)
    read_fields-complete owner (suc n) no_field from close to p t d short =
        when_true _ (ap (stands RightBrace) p ∙ stands_gives t) (λ i. Some (no_field, p i))
    read_fields-complete of_interface (suc n) (fields_and ns kind tag span fs) from close to s t d short = absurd s.0
    read_fields-complete of_struct (suc n) (fields_and ns kind tag span fs) from close to s t d short =
        let end = s.1.2.1 in
        let follows : is_next is_end s.1.0 ≡ true = before_semicolon is_end s.1.0 s.1.2.0 refl closing_is_end end in
        let fewer : length s.1.2.0.left < n =
        omega (
          arith,
          first_then (identifiers_shorter text ns)
              (both (weak (expression_shorter text as_type kind)) (optional_tag_longest tag)) from s.1.0 s.1.1.0,
          semicolon_longest s.1.0 s.1.2.0 end,
        ) in
        line_first of_struct n (fields_and ns kind tag span) fs from s.1.0 s.1.2.0 close
        (struct_line ns kind tag span from s.1.0 s.1.1 (omega arith) follows) (no_brace ns s.1.1.0.0 s.1.1.0.1) end
        (read_fields-complete of_struct n fs s.1.2.0 close to s.1.2.2 t (omega arith) fewer)
      where
        no_brace : (names : List Identifier) (place : Cursor)
            → identifiers text names from place
            → stands RightBrace from ≡ false
        no_brace [] place h = absurd h
        no_brace (x ∷ xs) place h = stands_other h.1.0.0 RightBrace refl
    read_fields-complete of_struct (suc n) (embedded_and star x tag span fs) from close to s t d short =
        let end = s.1.2.1 in
        let follows : is_next is_end s.1.0 ≡ true = before_semicolon is_end s.1.0 s.1.2.0 refl closing_is_end end in
        let fewer : length s.1.2.0.left < n =
        omega (
          arith,
          then_last (chosen_longest star (weak (token_shorter Star)) same_length)
              (first_then (type_name_shorter text x) (optional_tag_longest tag)) from s.1.0 s.1.1.0,
          semicolon_longest
              s.1.0 s.1.2.0 end,
        ) in
        let after : is_next ends_embedded s.1.1.0.2.0 ≡ true = tag_follows tag s.1.1.0.2.0 s.1.0 s.1.1.0.2.2 follows in
        let name : IsEmbedded s.1.1.0.0 = embedded x.qualifier x.name s.1.1.0.0 s.1.1.0.2.0 s.1.1.0.2.1.0 after in
        line_first of_struct n (embedded_and star x tag span) fs from s.1.0 s.1.2.0 close
        (embedded_line star x tag span from s.1.0 s.1.1 follows)
        (no_brace star s.1.1.0.0 s.1.1.0.1 (stands_other name.name RightBrace refl)) end
        (read_fields-complete of_struct n fs s.1.2.0 close to s.1.2.2 t d fewer)
      where
        no_brace : (b : Bool) (place : Cursor)
            → only_if b (token Star) from place
            → stands RightBrace place ≡ false
            → stands RightBrace from ≡ false
        no_brace true place h e = stands_other h RightBrace refl
        no_brace false place p e = ap (stands RightBrace) p ∙ e
    read_fields-complete of_interface (suc n) (embedded_and true x tag span fs) from close to s t d short =
        absurd (true≢false s.0.0)
    read_fields-complete of_interface (suc n) (embedded_and false x (Some inner) span fs) from close to s t d short =
        let p : Some inner ≡ None = s.0.1 in cc
    read_fields-complete of_interface (suc n) (embedded_and false x None span fs) from close to s t d short =
        let end = s.1.2.1 in
        let follows : is_next is_end s.1.0 ≡ true = before_semicolon is_end s.1.0 s.1.2.0 refl closing_is_end end in
        let line : spanning span (type_name text x) from s.1.0 =
        (moved_type x from s.1.1.0.0 s.1.1.0.2.0 s.1.0 s.1.1.0.1 s.1.1.0.2.1 s.1.1.0.2.2, s.1.1.1, s.1.1.2) in
        let fewer : length s.1.2.0.left < n =
        omega (arith, type_name_shorter text x from s.1.0 line.0, semicolon_longest s.1.0 s.1.2.0 end) in
        let name : IsEmbedded from =
        embedded x.qualifier x.name from s.1.0 line.0.0 (next_implied is_end ends_embedded s.1.0 line_end follows) in
        line_first of_interface n (embedded_and false x None span) fs from s.1.0 s.1.2.0 close
        (interface_line x span from s.1.0 line follows) (stands_other name.name RightBrace refl) end
        (read_fields-complete of_interface n fs s.1.2.0 close to s.1.2.2 t d fewer)
      where
        moved_type : (y : TypeName) (a b c e : Cursor) → a ≡ b → type_name text y b c → c ≡ e → type_name text y a e
        moved_type y a b c e p h q =
            subst (λ place. type_name text y place e) (sym p) (subst (λ place. type_name text y b place) q h)
    read_fields-complete of_struct (suc n) (element_and star x tag span fs) from close to s t d short =
        let end = s.1.2.1 in
        let follows : is_next is_end s.1.0 ≡ true = before_semicolon is_end s.1.0 s.1.2.0 refl closing_is_end end in
        let fewer : length s.1.2.0.left < n =
        omega (
          arith,
          then_last (chosen_longest star (weak (token_shorter Star)) same_length)
              (first_then (expression_shorter text as_type x) (optional_tag_longest tag)) from s.1.0 s.1.1.0,
          semicolon_longest
              s.1.0 s.1.2.0 end,
        ) in
        line_first of_struct n (element_and star x tag span) fs from s.1.0 s.1.2.0 close
        (instance_line star x tag span from s.1.0 s.0.0 s.0.1 s.1.1 (omega arith) follows)
        (no_brace star s.1.1.0.0 s.1.1.0.1
        (stands_not can_begin_type RightBrace s.1.1.0.0 refl (type_begins text x s.1.1.0.0 s.1.1.0.2.0 s.1.1.0.2.1))) end
        (read_fields-complete of_struct n fs s.1.2.0 close to s.1.2.2 t (omega arith) fewer)
      where
        no_brace : (b : Bool) (place : Cursor)
            → only_if b (token Star) from place
            → stands RightBrace place ≡ false
            → stands RightBrace from ≡ false
        no_brace true place h e = stands_other h RightBrace refl
        no_brace false place p e = ap (stands RightBrace) p ∙ e
    read_fields-complete of_interface (suc n) (element_and true x tag span fs) from close to s t d short =
        absurd (true≢false s.0.1)
    read_fields-complete of_interface (suc n) (element_and false x (Some inner) span fs) from close to s t d short =
        let p : Some inner ≡ None = s.0.2 in cc
    read_fields-complete of_interface (suc n) (element_and false x None span fs) from close to s t d short =
        let end = s.1.2.1 in
        let follows : is_next is_end s.1.0 ≡ true = before_semicolon is_end s.1.0 s.1.2.0 refl closing_is_end end in
        let spelled : SpellsExpression text as_constraint x from s.1.0 =
        moved_constraint x from s.1.1.0.0 s.1.1.0.2.0 s.1.0 s.1.1.0.1 s.1.1.0.2.1 s.1.1.0.2.2 in
        let fewer : length s.1.2.0.left < n =
        omega (arith, expression_shorter text as_constraint x from s.1.0 spelled, semicolon_longest s.1.0 s.1.2.0 end) in
        line_first of_interface n (element_and false x None span) fs from s.1.0 s.1.2.0 close
        (constraint_line x span from s.1.0 s.0.0 s.0.3 s.0.4 (spelled, s.1.1.1, s.1.1.2) (omega arith) follows)
        (constraint_no_brace text x from s.1.0 s.0.3 spelled) end
        (read_fields-complete of_interface n fs s.1.2.0 close to s.1.2.2 t (omega arith) fewer)
      where
        moved_constraint : (y : Expression) (a b c e : Cursor)
            → a ≡ b
            → SpellsExpression text as_constraint y b c
            → c ≡ e
            → SpellsExpression text as_constraint y a e
        moved_constraint y a b c e p h q =
            subst (λ place. SpellsExpression text as_constraint y place e) (sym p)
            (subst (λ place. SpellsExpression text as_constraint y b place) q h)
    read_fields-complete of_struct (suc n) (method_and x signature span fs) from close to s t d short = absurd s.0
    read_fields-complete of_interface (suc n) (method_and x signature span fs) from close to s t d short =
        let end = s.1.2.1 in
        let fewer : length s.1.2.0.left < n =
        omega (
          arith,
          first_then (identifier_shorter text x)
              (signature_longest text signature) from s.1.0 s.1.1.0,
          semicolon_longest s.1.0 s.1.2.0 end,
        ) in
        line_first of_interface n (method_and x signature span) fs from s.1.0 s.1.2.0 close
        (method_line x signature span from s.1.0 s.1.1 (omega arith))
        (stands_other s.1.1.0.1.0.0 RightBrace refl) end
        (read_fields-complete of_interface n fs s.1.2.0 close to s.1.2.2 t (omega arith) fewer)

    pub read_braced_fields-complete : (owner : Owner) (fs : Fields) (from to : Cursor)
        → in_braces (SpellsFields text owner fs) from to
        → fields_depth fs ≤ below
        → read_braced_fields text r owner from ≡ Some (fs, to)
    unfolding read_braced_fields
    read_braced_fields-complete owner fs from to s d =
        step _ (take_gives s.1)
        (step _ (read_fields-complete owner (steps s.0) fs s.0 s.2.0 to s.2.1 s.2.2 d (omega arith))
        (step _ (take_gives s.2.2) refl))
