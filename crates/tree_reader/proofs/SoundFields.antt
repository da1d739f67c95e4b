-- The lines of struct types and interface types that the reader reads are spelled by their tokens, and no deeper than
-- their parts may be.
use Rattle.std.proofs.Common.{◌≡◌, ℕ, zero, suc, ◌≤◌, Bool, true, false, if◌then◌else◌, ◌&&◌, ◌||◌, not, true≢false, inl, inr, refl, sym, List, arith}
use Rattle.std.specs.Prelude.{Option, Some, None}
use Rattle.std.proofs.lemmas.Option.{none-some, option_and_then_some}
use Rattle.std.proofs.lemmas.Bool.{and_parts}
use Rattle.lexer.specs.declared.token.TokenKind.TheVariants.{Identifier as identifier_kind, Star, LeftParenthesis, LeftBracket, LeftBrace, RightBrace, Dot}
use Rattle.tree.specs.declared.span.Span.{Span}
use Rattle.tree.specs.Syntax.{Identifier, TypeName, Expression, Fields, no_field}
use Rattle.tree.specs.Depth.{expression_depth, fields_depth}
use Rattle.meaning.specs.Cursor.{GoText, Cursor, string_token, semicolon, is_next}
use Rattle.meaning.specs.WellFormed.{names_type, is_instance}
use Rattle.meaning.specs.Grammar.{IsSecond, optional_tag, type_name, in_braces, Owner, of_struct, of_interface, SpellsFields}
use Rattle.tree_reader.specs.Reading.{stands, behind, past, steps, span_between, read_identifier, read_identifiers}
use Rattle.tree_reader.specs.Reader.{is_string, follows_embedded, is_second, opens_index, is_no_name, field_of, Readers, read_indexed, read_constraint, read_type_name, read_tag, read_struct_field, read_interface_field, read_field, read_fields, read_braced_fields, read_signature}
use Rattle.tree_reader.specs.Claims.{AreSound}
use Rattle.tree_reader.proofs.Steps.{given, two_ways, only_where_some, stands-sound, take-sound, past-sound, take_semicolon-sound, read_identifier-sound, read_identifiers-sound}
use Rattle.tree_reader.proofs.Tables.{is_string-sound}
use Rattle.tree_reader.proofs.SoundIndexes.{second_is}
use Rattle.tree_reader.proofs.SoundInstances.{IsIndexed, read_indexed-sound, read_constraint-sound}
use Rattle.tree_reader.proofs.SoundSignatures.{read_signature-sound}

not_so : (b : Bool) → not b ≡ true → b ≡ false
not_so true h = absurd (true≢false (sym h))
not_so false h = refl

module _ (text : GoText) (r : Readers) (below : ℕ) (sound : AreSound text below r) where
  abbrev ReadsTypeName : Cursor → TypeName × Cursor → Type 0
  ReadsTypeName from x = type_name text x.0 from x.1

  read_type_name-sound : (from : Cursor) (x : TypeName × Cursor)
      → read_type_name text r from ≡ Some x
      → ReadsTypeName from x
  unfolding read_type_name
  read_type_name-sound from x e =
      option_and_then_some _ (read_identifier text from) x e λ first first-read first-then.
      let h = read_identifier-sound text from first first-read in
      elim (two_ways (stands Dot first.1) _ _ (Some x) first-then) [
        | inl c ↦ option_and_then_some _ (read_identifier text (behind first.1)) x c.1 λ second second-read second-then.
            let k = read_identifier-sound text (behind first.1) second second-read in
            given (ReadsTypeName from) _ x second-then ((_, (_, h, stands-sound Dot first.1 c.0), k), refl, refl)
        | inr c ↦ given (ReadsTypeName from) _ x c.1 ((_, refl, h), refl, refl)
      ]

  read_tag-sound : (place : Cursor) → optional_tag (read_tag text r place).0 place (read_tag text r place).1
  read_tag-sound place = by_value (is_next is_string place) (is_string-sound place) where
    by_value : (b : Bool)
        → (b ≡ true → string_token place (behind place))
        → let end = behind place in
        let tag : Option Span × Cursor = if b then (Some (span_between place end), end) else (None, place) in
        optional_tag tag.0 place tag.1
    by_value true tag = (tag refl, refl, refl)
    by_value false tag = refl

  -- a line is one where it is before other lines
  record ReadsField (owner : Owner) (from : Cursor) (x : (Fields → Fields) × Cursor) : Type 0 where
    spelled : (fs : Fields) (end to : Cursor)
        → semicolon x.1 end
        → SpellsFields text owner fs end to
        → SpellsFields text owner (x.0 fs) from to
    shallow : (fs : Fields) → fields_depth fs ≤ below → fields_depth (x.0 fs) ≤ below

  -- a name with an array's type, or an instance that is embedded
  field_of-sound : (n : Option Identifier) (t : Expression) (tag : Option Span) (from middle to : Cursor)
      → IsSecond text.edition
      → IsIndexed text n t from middle × (expression_depth t ≤ below)
      → optional_tag tag middle to
      → ReadsField of_struct from (field_of n t tag (span_between from to), to)
  unfolding SpellsFields fields_depth
  field_of-sound None t tag from middle to second (h, d) tagged = record {
    spelled = λ fs end last semi more.
        ((second, h.1), (to, ((from, refl, (middle, h.0, tagged)), refl, refl), (end, semi, more)));
    shallow = λ fs deep. omega arith;
  }
  field_of-sound (Some n) t tag from middle to second (h, d) tagged = record {
    spelled = λ fs end last semi more.
        (tt, (to, ((h.0, (h.0, h.1, refl), (middle, h.2, tagged)), refl, refl), (end, semi, more)));
    shallow = λ fs deep. omega arith;
  }

  read_struct_field-sound : (from : Cursor) (x : (Fields → Fields) × Cursor)
      → read_struct_field text r from ≡ Some x
      → ReadsField of_struct from x
  unfolding read_struct_field SpellsFields fields_depth
  read_struct_field-sound from x e =
      let indexes = stands identifier_kind from && opens_index (behind from) in
      let embeds = stands Star from || (stands identifier_kind from && is_next follows_embedded (behind from)) in
      elim (two_ways (is_second text.edition && indexes) _ _ (Some x) e) [
        | inl b ↦ (let second = and_parts (is_second text.edition) indexes b.0 in
            let places = and_parts (stands identifier_kind from) (opens_index (behind from)) second.1 in
            let edition = second_is text.edition second.0 in
            option_and_then_some _ (read_indexed text r from) x b.1 λ t t-read t-then.
            let h = read_indexed-sound text r below sound from t edition places.0 places.1 t-read in
            let tag = read_tag-sound t.1 in
            given (ReadsField of_struct from) _ x t-then
            (field_of-sound t.0.0 t.0.1 (read_tag text r t.1).0 from t.1 (read_tag text r t.1).1 edition h tag))
        | inr b ↦ elim (two_ways embeds _ _ (Some x) b.1) [
          | inl c ↦ option_and_then_some _ (read_type_name text r (past Star from)) x c.1 λ n n-read n-then.
              let star = past-sound Star from in
              elim (two_ways (is_second text.edition && stands LeftBracket n.1) _ _ (Some x) n-then) [
                | inl d ↦ option_and_then_some _ (r.read_type (past Star from)) x d.1 λ t t-read t-then.
                    let k = only_where_some (is_instance t.0) _ x t-then in
                    let edition = second_is text.edition (and_parts (is_second text.edition) (stands LeftBracket n.1) d.0).0 in
                    let h = sound.type (past Star from) t.1 t.0 t-read in
                    let tag = read_tag-sound t.1 in
                    let a = h.1 in
                    given (ReadsField of_struct from) _ x k.1 record {
                      spelled = λ fs end to semi more.
                          ((edition, k.0), (_, ((_, star, (_, h.0, tag)), refl, refl), (end, semi, more)));
                      shallow = λ fs d. omega arith;
                    }
                | inr d ↦ (let h = read_type_name-sound (past Star from) n n-read in
                    let tag = read_tag-sound n.1 in
                    given (ReadsField of_struct from) _ x d.1 record {
                      spelled = λ fs end to semi more. (tt, (_, ((_, star, (_, h, tag)), refl, refl), (end, semi, more)));
                      shallow = λ fs d. d;
                    })
              ]
          | inr c ↦ option_and_then_some _ (read_identifiers text from) x c.1 λ ns ns-read ns-then.
              option_and_then_some _ (r.read_type ns.1) x ns-then λ t t-read t-then.
              let h = read_identifiers-sound text from ns ns-read in
              let k = sound.type ns.1 t.1 t.0 t-read in
              let tag = read_tag-sound t.1 in
              let a = k.1 in
              given (ReadsField of_struct from) _ x t-then record {
                spelled = λ fs end to semi more. (tt, (_, ((_, h, (_, k.0, tag)), refl, refl), (end, semi, more)));
                shallow = λ fs d. omega arith;
              }
        ]
      ]

  read_interface_field-sound : (from : Cursor) (x : (Fields → Fields) × Cursor)
      → read_interface_field text r from ≡ Some x
      → ReadsField of_interface from x
  unfolding read_interface_field SpellsFields fields_depth
  read_interface_field-sound from x e =
      elim (two_ways (stands identifier_kind from && stands LeftParenthesis (behind from)) _ _ (Some x) e) [
        | inl c ↦ option_and_then_some _ (read_identifier text from) x c.1 λ n n-read n-then.
            option_and_then_some _ (read_signature text r n.1) x n-then λ s s-read s-then.
            let h = read_identifier-sound text from n n-read in
            let k = read_signature-sound text r below sound n.1 s s-read in
            let a = k.1 in
            given (ReadsField of_interface from) _ x s-then record {
              spelled = λ fs end to semi more. (tt, (_, ((_, h, k.0), refl, refl), (end, semi, more)));
              shallow = λ fs d. omega arith;
            }
        | inr c ↦ elim (two_ways (is_second text.edition && is_no_name from) _ _ (Some x) c.1) [
          | inl d ↦ option_and_then_some _ (read_constraint text r from) x d.1 λ t t-read t-then.
              let h = read_constraint-sound text r below sound from t t-read in
              let k = only_where_some (not (names_type t.0)) _ x t-then in
              let edition = second_is text.edition (and_parts (is_second text.edition) (is_no_name from) d.0).0 in
              let a = h.2 in
              given (ReadsField of_interface from) _ x k.1 record {
                spelled = λ fs end to semi more. (
                  (edition, refl, refl, h.1, not_so (names_type t.0) k.0),
                  (_, ((from, refl, (_, h.0, refl)), refl, refl), (end, semi, more)),
                );
                shallow = λ fs d. omega arith;
              }
          | inr d ↦ option_and_then_some _ (read_type_name text r from) x d.1 λ n n-read n-then.
              let h = read_type_name-sound from n n-read in
              given (ReadsField of_interface from) _ x n-then record {
                spelled = λ fs end to semi more.
                    ((refl, refl), (_, ((from, refl, (_, h, refl)), refl, refl), (end, semi, more)));
                shallow = λ fs d. d;
              }
        ]
      ]

  read_field-sound : (owner : Owner) (from : Cursor) (x : (Fields → Fields) × Cursor)
      → read_field text r owner from ≡ Some x
      → ReadsField owner from x
  read_field-sound of_struct from x e = read_struct_field-sound from x e
  read_field-sound of_interface from x e = read_interface_field-sound from x e

  abbrev ReadsFields : Owner → Cursor → Fields × Cursor → Type 0
  ReadsFields owner from x = SpellsFields text owner x.0 from x.1 × (fields_depth x.0 ≤ below)

  last_field : (owner : Owner) (to : Cursor) → ReadsFields owner to (no_field, to)
  unfolding SpellsFields fields_depth
  last_field owner to = (refl, omega arith)

  read_fields-sound : (owner : Owner) (n : ℕ) (from : Cursor) (x : Fields × Cursor)
      → read_fields text r owner n from ≡ Some x
      → ReadsFields owner from x
  unfolding read_fields
  read_fields-sound owner zero from x e = absurd (none-some x e)
  read_fields-sound owner (suc n) from x e =
      elim (two_ways (stands RightBrace from) _ _ (Some x) e) [
        | inl c ↦ given (ReadsFields owner from) _ x c.1 (last_field owner from)
        | inr c ↦ option_and_then_some _ (read_field text r owner from) x c.1 λ first first-read first-then.
            option_and_then_some _ _ x first-then λ end end-read end-then.
            option_and_then_some _ _ x end-then λ more more-read more-then.
            let h = read_field-sound owner from first first-read in
            let k = read_fields-sound owner n end more more-read in
            given (ReadsFields owner from) _ x more-then
            (h.spelled more.0 end more.1 (take_semicolon-sound first.1 end end-read) k.0, h.shallow more.0 k.1)
      ]

  abbrev pub ReadsBracedFields : Owner → Cursor → Fields × Cursor → Type 0
  ReadsBracedFields owner from x = in_braces (SpellsFields text owner x.0) from x.1 × (fields_depth x.0 ≤ below)

  pub read_braced_fields-sound : (owner : Owner) (from : Cursor) (x : Fields × Cursor)
      → read_braced_fields text r owner from ≡ Some x
      → ReadsBracedFields owner from x
  unfolding read_braced_fields
  read_braced_fields-sound owner from x e =
      option_and_then_some _ _ x e λ inner inner-read inner-then.
      option_and_then_some _ _ x inner-then λ fs fs-read fs-then.
      option_and_then_some _ _ x fs-then λ end end-read end-then.
      let h = read_fields-sound owner (steps inner) inner fs fs-read in
      given (ReadsBracedFields owner from) _ x end-then
      ((_, take-sound LeftBrace from inner inner-read, (_, h.0, take-sound RightBrace fs.1 end end-read)), h.1)
