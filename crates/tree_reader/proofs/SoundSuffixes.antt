-- The primary expressions that the reader reads are spelled by their tokens, and no deeper than they may be.
use Rattle.std.proofs.Common.{◌≡◌, ℕ, zero, suc, ◌≤◌, max, Bool, true, false, ◌&&◌, ◌||◌, not, inl, inr, refl, sym, ap, ◌∙◌, List, arith}
use Rattle.std.specs.Prelude.{Option, Some, None}
use Rattle.std.proofs.lemmas.Option.{none-some, same_Some, option_and_then_some}
use Rattle.std.proofs.lemmas.Bool.{and_parts, leb-true, cases_Bool}
use Rattle.lexer.specs.declared.token.TokenKind.TheVariants.{LeftParenthesis, RightParenthesis, LeftBracket, LeftBrace, Dot}
use Rattle.tree.specs.Syntax.{Expression, expression_node, name_expression, composite_literal, selector_expression, index_expression, instance_expression, type_assertion, call_expression}
use Rattle.tree.specs.Depth.{expression_depth}
use Rattle.meaning.specs.Cursor.{GoText, Cursor}
use Rattle.meaning.specs.WellFormed.{IsPrimary, names_type, is_instance, is_type, takes_elements, has_bare_literal}
use Rattle.meaning.specs.Grammar.{as_type, as_expression, SpellsExpression, SpellsForm}
use Rattle.tree_reader.specs.Reading.{Read, stands, behind, take, steps, spanned}
use Rattle.tree_reader.specs.Reader.{is_second, takes_braces, is_guard, Readers, read_braced_elements, read_arguments, around, go_on, read_operand, read_index, read_call, read_assertion, read_selector, read_composite, read_suffix, read_suffixes, read_primary}
use Rattle.tree_reader.specs.Claims.{StandsIn, AreSound}
use Rattle.tree_reader.proofs.Steps.{given, two_ways, only_where_some, stands-sound, take-sound}
use Rattle.tree_reader.proofs.Taken.{and_not}
use Rattle.tree_reader.proofs.SoundLists.{read_braced_elements-sound, read_arguments-sound}
use Rattle.tree_reader.proofs.SoundIndexes.{second_is, read_index-sound}
use Rattle.tree_reader.proofs.SoundInstances.{instance_type-sound}
use Rattle.tree_reader.proofs.SoundTypes.{no_arguments, names_type-sound, Grows, read_selector-sound}
use Rattle.tree_reader.proofs.SoundOperands.{read_operand-sound}

-- what has as few bare literals as something that stands there can stand there
pub stands_in-same : (header : Bool) (e grown : Expression)
    → has_bare_literal grown ≡ has_bare_literal e
    → StandsIn header e
    → StandsIn header grown
stands_in-same true e grown same h = same ∙ h
stands_in-same false e grown same h = tt

stands_in-plain : (header : Bool) (e : Expression) → has_bare_literal e ≡ false → StandsIn header e
stands_in-plain true e h = h
stands_in-plain false e h = tt

names_type-takes : (e : Expression) → names_type e ≡ true → takes_elements e ≡ true
names_type-takes (expression_node (name_expression n) span) h = refl
names_type-takes (expression_node (selector_expression e n) span) h = refl
names_type-takes (expression_node _ span) h = cc

instance-takes : (e : Expression) → is_instance e ≡ true → takes_elements e ≡ true
instance-takes (expression_node (index_expression e i) span) h = refl
instance-takes (expression_node (instance_expression e es) span) h = refl
instance-takes (expression_node _ span) h = cc

-- what takes braces was read as an expression, and is a type
takes_braces-sound : (text : GoText) (e : Expression) (from to : Cursor)
    → takes_braces text.edition e ≡ true
    → stands Dot to ≡ false
    → stands LeftBracket to ≡ false
    → SpellsExpression text as_expression e from to
    → (takes_elements e ≡ true) × SpellsExpression text as_type e from to
takes_braces-sound text e from to h dot bracket spelled =
    elim (cases_Bool (names_type e)) [
      | inl k ↦ (
        names_type-takes e k,
        names_type-sound text e from to k (λ alone. dot)
            (no_arguments text.edition to (and_not (is_second text.edition) bracket)) spelled,
      )
      | inr k ↦ (let instance = sym (ap (λ b. b || (is_second text.edition && (is_instance e && is_type e))) k) ∙ h in
          let tests = and_parts (is_second text.edition) (is_instance e && is_type e) instance in
          let parts = and_parts (is_instance e) (is_type e) tests.1 in (
            instance-takes e parts.0,
            instance_type-sound text e from to (second_is text.edition tests.0) parts.0 parts.1 spelled,
          ))
    ]

stands_outside_header : (header : Bool) (e : Expression) → not header ≡ true → StandsIn header e
stands_outside_header true e h = cc
stands_outside_header false e h = tt

module _ (text : GoText) (r : Readers) (below : ℕ) where
  pub record ReadsPrimary (header : Bool) (from : Cursor) (x : Expression × Cursor) : Type 0 where
    pub spelled : SpellsExpression text as_expression x.0 from x.1
    pub primary : IsPrimary x.0
    pub stands_in : StandsIn header x.0
    pub shallow : expression_depth x.0 ≤ suc below

  -- what was read stays, or grows and goes on
  pub go_on-sound : (P : Expression × Cursor → Type 0) (more : Expression → Cursor → Read Expression) (e : Expression)
      → (at : Cursor) (o : Option (Read Expression)) (x : Expression × Cursor)
      → (o ≡ None → P (e, at))
      → ((grown : Read Expression) (g : Expression × Cursor)
      → o ≡ Some grown
      → grown ≡ Some g
      → expression_depth e ≤ below
      → more g.0 g.1 ≡ Some x
      → P x)
      → go_on text r below more e at o ≡ Some x
      → P x
  go_on-sound P more e at None x stops goes h = given P (e, at) x h (stops refl)
  go_on-sound P more e at (Some grown) x stops goes h =
      option_and_then_some _ (around text r below e grown) x h λ g g-read g-then.
      let fits = only_where_some _ grown g g-read in
      goes grown g refl fits.1 (leb-true _ below fits.0) g-then

module _ (text : GoText) (r : Readers) (below : ℕ) (sound : AreSound text below r) (from at : Cursor) (e : Expression)
    (primary : IsPrimary e) (spelled : SpellsExpression text as_expression e from at)
    (shallow : expression_depth e ≤ below) where
  abbrev Grown : Expression × Cursor → Type 0
  Grown x = Grows text r below sound as_expression from e x

  read_assertion-sound : (x : Expression × Cursor)
      → stands Dot at ≡ true
      → stands LeftParenthesis (behind at) ≡ true
      → read_assertion text r below from e at ≡ Some x
      → Grown x
  unfolding read_assertion SpellsExpression SpellsForm expression_depth has_bare_literal
  read_assertion-sound x dot bracket read =
      option_and_then_some _ (r.read_type (behind (behind at))) x read λ t t-read t-then.
      option_and_then_some _ (take RightParenthesis t.1) x t-then λ end end-read end-then.
      let h = sound.type (behind (behind at)) t.1 t.0 t-read in
      let point = stands-sound Dot at dot in
      let left = stands-sound LeftParenthesis (behind at) bracket in
      let right = take-sound RightParenthesis t.1 end end-read in
      let a = h.1 in
      let b = shallow in
      given Grown (spanned from (type_assertion e t.0) end) x end-then record {
        spelled = ((tt, (primary, (at, spelled, (_, point, (_, left, (_, h.0, right)))))), refl, refl);
        same = refl;
        primary = refl;
        shallow = omega arith;
      }

  read_call-sound : (x : Expression × Cursor)
      → stands LeftParenthesis at ≡ true
      → read_call text r below from e at ≡ Some x
      → Grown x
  unfolding read_call SpellsExpression SpellsForm expression_depth has_bare_literal
  read_call-sound x bracket read =
      option_and_then_some _ (read_arguments text r (steps (behind at)) (behind at)) x read λ es es-read es-then.
      option_and_then_some _ (take RightParenthesis es.1) x es-then λ end end-read end-then.
      let h = read_arguments-sound text r below sound (steps (behind at)) (behind at) es es-read in
      let left = stands-sound LeftParenthesis at bracket in
      let right = take-sound RightParenthesis es.1 end end-read in
      let a = h.1 in
      let b = shallow in
      given Grown (spanned from (call_expression e es.0.0 es.0.1) end) x end-then record {
        spelled = ((tt, (primary, (at, spelled, (_, left, (_, h.0, right))))), refl, refl);
        same = refl;
        primary = refl;
        shallow = omega arith;
      }

  -- what stands in brackets
  indexed_grown : (x : Expression × Cursor)
      → stands LeftBracket at ≡ true
      → read_index text r from e at ≡ Some x
      → Grown x
  indexed_grown x bracket read =
      let h = read_index-sound text r below sound from at e primary spelled x bracket read in
      let a = shallow in
      let b = h.shallow in
      record { spelled = h.spelled; same = h.same; primary = h.primary; shallow = omega arith }

  grown_primary : (header : Bool) (x : Expression × Cursor)
      → StandsIn header e
      → Grown x
      → ReadsPrimary text r below header from x
  grown_primary header x stands_in g =
      record {
        spelled = g.spelled;
        primary = g.primary;
        stands_in = stands_in-same header e x.0 g.same stands_in;
        shallow = g.shallow;
      }

  read_composite-sound : (header : Bool) (x : Expression × Cursor)
      → stands Dot at ≡ false
      → stands LeftBracket at ≡ false
      → not header ≡ true
      → takes_braces text.edition e ≡ true
      → read_composite text r below from e at ≡ Some x
      → ReadsPrimary text r below header from x
  unfolding read_composite SpellsExpression SpellsForm expression_depth has_bare_literal
  read_composite-sound header x dot bracket outside names read =
      option_and_then_some _ (read_braced_elements text r at) x read λ es es-read es-then.
      let h = read_braced_elements-sound text r below sound at es es-read in
      let named = takes_braces-sound text e from at names dot bracket spelled in
      let a = shallow in
      let b = h.1 in
      given (ReadsPrimary text r below header from) (spanned from (composite_literal e es.0) es.1) x es-then record {
        spelled = ((tt, (named.0, (at, named.1, h.0))), refl, refl);
        primary = refl;
        stands_in = stands_outside_header header (spanned from (composite_literal e es.0) es.1).0 outside;
        shallow = omega arith;
      }

  read_suffix-sound : (header : Bool) (grown : Read Expression) (x : Expression × Cursor)
      → StandsIn header e
      → read_suffix text r below header from e at ≡ Some grown
      → grown ≡ Some x
      → ReadsPrimary text r below header from x
  read_suffix-sound header grown x stands_in read is_x =
      elim (two_ways (stands Dot at) _ _ (Some grown) read) [
        | inl dot ↦ elim (two_ways (is_guard at) _ _ (Some grown) dot.1) [
          | inl c ↦ absurd (none-some grown c.1)
          | inr c ↦ elim (two_ways (stands LeftParenthesis (behind at)) _ _ (Some grown) c.1) [
            | inl c ↦ grown_primary header x stands_in (read_assertion-sound x dot.0 c.0 (same_Some _ grown c.1 ∙ is_x))
            | inr c ↦ (let select = same_Some (read_selector text r below from e at) grown c.1 ∙ is_x in
                grown_primary header x stands_in
                (read_selector-sound text r below sound from at e x primary spelled dot.0 shallow select))
          ]
        ]
        | inr dot ↦ elim (two_ways (stands LeftBracket at) _ _ (Some grown) dot.1) [
          | inl c ↦ grown_primary header x stands_in (indexed_grown x c.0 (same_Some _ grown c.1 ∙ is_x))
          | inr bracket ↦ elim (two_ways (stands LeftParenthesis at) _ _ (Some grown) bracket.1) [
            | inl c ↦ grown_primary header x stands_in (read_call-sound x c.0 (same_Some _ grown c.1 ∙ is_x))
            | inr c ↦ elim (two_ways (stands LeftBrace at && (not header && takes_braces text.edition e)) _ _ (Some grown) c.1) [
              | inl c ↦ (let parts = and_parts (stands LeftBrace at) (not header && takes_braces text.edition e) c.0 in
                  let last = and_parts (not header) (takes_braces text.edition e) parts.1 in
                  read_composite-sound header x dot.0 bracket.0 last.0 last.1 (same_Some _ grown c.1 ∙ is_x))
              | inr c ↦ absurd (none-some grown c.1)
            ]
          ]
        ]
      ]

module _ (text : GoText) (r : Readers) (below : ℕ) (sound : AreSound text below r) (header : Bool) (from : Cursor) where
  read_suffixes-sound : (n : ℕ) (e : Expression) (at : Cursor) (x : Expression × Cursor)
      → ReadsPrimary text r below header from (e, at)
      → read_suffixes text r below header from n e at ≡ Some x
      → ReadsPrimary text r below header from x
  unfolding read_suffixes
  read_suffixes-sound zero e at x h read = absurd (none-some x read)
  read_suffixes-sound (suc n) e at x h read =
      let suffix = read_suffix text r below header from e at in
      let more = read_suffixes text r below header from n in
      go_on-sound text r below (ReadsPrimary text r below header from) more e at suffix x
      (λ stops. h)
      (λ grown g found is_g shallow goes.
      let spelled = h.spelled in
      let next = read_suffix-sound text r below sound from at e h.primary spelled shallow header grown g h.stands_in in
      read_suffixes-sound n g.0 g.1 x (next found is_g) goes)
      read

  pub read_primary-sound : (x : Expression × Cursor)
      → read_primary text r below header from ≡ Some x
      → ReadsPrimary text r below header from x
  unfolding read_primary
  read_primary-sound x read =
      option_and_then_some _ (read_operand text r below from) x read λ e e-read e-then.
      let h = read_operand-sound text r below sound from e e-read in
      read_suffixes-sound (steps e.1) e.0 e.1 x record {
        spelled = h.spelled;
        primary = h.primary;
        stands_in = stands_in-plain header e.0 h.plain;
        shallow = h.shallow;
      } e-then
