-- The expressions that the reader reads are spelled by their tokens, nest by the levels of their operators, and are no
-- deeper than they may be.
use Rattle.std.proofs.Common.{◌≡◌, ℕ, zero, suc, ◌≤◌, Bool, true, false, ◌||◌, inl, inr, refl, sym, ◌∙◌, ap, subst, List, arith}
use Rattle.std.specs.Prelude.{nat_le, Option, Some, None}
use Rattle.std.proofs.lemmas.Option.{none-some, same_Some, option_and_then_some}
use Rattle.std.proofs.lemmas.Bool.{leb-true, leb-false}
use Rattle.lexer.specs.declared.token.TokenKind.TheVariants.{Star, LeftBrace}
use Rattle.tree.specs.declared.operator.BinaryOperator.{BinaryOperator}
use Rattle.tree.specs.declared.operator.BinaryOperator.TheVariants.{LogicalOr}
use Rattle.tree.specs.declared.operator.ChanDirection.TheVariants.{Both, Send, Receive}
use Rattle.tree.specs.declared.operator.UnaryOperator.TheVariants.{Tilde}
use Rattle.tree.specs.Syntax.{Expression, expression_node, name_expression, literal_value, key_value, star_expression, unary_expression, binary_expression, channel_type}
use Rattle.tree.specs.Depth.{expression_depth}
use Rattle.meaning.specs.Cursor.{GoText, Cursor}
use Rattle.meaning.specs.WellFormed.{operator_level, level, unary_level, primary_level, IsUnaryOperand, has_bare_literal}
use Rattle.meaning.specs.Grammar.{as_expression, as_value, as_constraint, SpellsExpression, SpellsForm}
use Rattle.tree_reader.specs.Reading.{Read, ◌>>=◌, stands, behind, steps, spanned}
use Rattle.tree_reader.specs.Reader.{of_next, unary_operator, binary_operator, Readers, read_braced_elements, read_unary, read_operator, read_operators, read_expression_of, read_value_of}
use Rattle.tree_reader.specs.Claims.{StandsIn, IsLooser, AreSound}
use Rattle.tree_reader.proofs.Steps.{given, two_ways, option_ways, stands-sound}
use Rattle.tree_reader.proofs.Tables.{unary_operator-sound, unary_operator-operates, binary_operator-sound}
use Rattle.tree_reader.proofs.SoundLists.{read_braced_elements-sound}
use Rattle.tree_reader.proofs.SoundSuffixes.{stands_in-same, ReadsPrimary, go_on-sound, read_primary-sound}

-- no operator between two operands binds tighter than this
operator_level_most : (op : BinaryOperator) → operator_level op ≤ 5
operator_level_most LogicalOr = omega arith
operator_level_most _ = omega arith

-- no operator binds as tight as an operator before its operand
all_looser : (least : ℕ) (o : Option BinaryOperator) → unary_level ≤ least → IsLooser least o
all_looser least None h = tt
all_looser least (Some op) h = let most = operator_level_most op in omega arith

stands_in-both : (header : Bool) (l r grown : Expression)
    → has_bare_literal grown ≡ (has_bare_literal l || has_bare_literal r)
    → StandsIn header l
    → StandsIn header r
    → StandsIn header grown
stands_in-both true l r grown same h k = same ∙ (ap (λ (b : Bool). b || has_bare_literal r) h ∙ k)
stands_in-both false l r grown same h k = tt

-- an expression can stand at a key or a value
expression_is_value : (text : GoText) (e : Expression) (from to : Cursor)
    → SpellsExpression text as_expression e from to
    → SpellsExpression text as_value e from to
unfolding SpellsExpression SpellsForm
expression_is_value text (expression_node (name_expression n) span) from to h = h
expression_is_value text (expression_node (literal_value es) span) from to h = absurd h.0.0
expression_is_value text (expression_node (key_value k v) span) from to h = cc
expression_is_value text (expression_node (unary_expression Tilde e) span) from to h =
    let p : as_expression ≡ as_constraint = h.0.0 in cc
expression_is_value text (expression_node (channel_type Both t) span) from to h = h
expression_is_value text (expression_node (channel_type Send t) span) from to h = h
expression_is_value text (expression_node (channel_type Receive t) span) from to h = h
expression_is_value text (expression_node _ span) from to h = h

module _ (text : GoText) (r : Readers) (below : ℕ) (sound : AreSound text below r) where
  -- an operator's operand
  record ReadsOperand (header : Bool) (from : Cursor) (x : Expression × Cursor) : Type 0 where
    spelled : SpellsExpression text as_expression x.0 from x.1
    tight : IsUnaryOperand x.0
    stands_in : StandsIn header x.0
    shallow : expression_depth x.0 ≤ suc below

  from_primary : (header : Bool) (from : Cursor) (x : Expression × Cursor)
      → ReadsPrimary text r below header from x
      → ReadsOperand header from x
  from_primary header from x h =
      let seven = h.primary in
      record { spelled = h.spelled; tight = omega arith; stands_in = h.stands_in; shallow = h.shallow }

  read_unary-sound : (header : Bool) (from : Cursor) (x : Expression × Cursor)
      → read_unary text r below header from ≡ Some x
      → ReadsOperand header from x
  unfolding read_unary SpellsExpression SpellsForm expression_depth has_bare_literal
  read_unary-sound header from x e =
      elim (two_ways (stands Star from) _ _ (Some x) e) [
        | inl c ↦ option_and_then_some _ (r.read_expression header unary_level (behind from)) x c.1 λ v v-read v-then.
            let h = sound.expression header unary_level (behind from) v.1 v.0 v-read in
            let a = h.3 in
            given (ReadsOperand header from) (spanned from (star_expression v.0) v.1) x v-then record {
              spelled = ((h.1 (omega arith), (_, stands-sound Star from c.0, h.0)), refl, refl);
              tight = omega arith;
              stands_in = stands_in-same header v.0 (spanned from (star_expression v.0) v.1).0 refl h.2;
              shallow = omega arith;
            }
        | inr c ↦ elim (option_ways _ _ (of_next unary_operator from) (Some x) c.1) [
          | inl c ↦ from_primary header from x (read_primary-sound text r below sound header from x c.1)
          | inr c ↦ option_and_then_some _ (r.read_expression header unary_level (behind from)) x c.2 λ v v-read v-then.
              let h = sound.expression header unary_level (behind from) v.1 v.0 v-read in
              let a = h.3 in
              given (ReadsOperand header from) (spanned from (unary_expression c.0 v.0) v.1) x v-then record {
                spelled =
                    ((unary_operator-operates from c.0 c.1, (h.1 (omega arith), (_, unary_operator-sound from c.0 c.1, h.0))), refl, refl);
                tight = omega arith;
                stands_in = stands_in-same header v.0 (spanned from (unary_expression c.0 v.0) v.1).0 refl h.2;
                shallow = omega arith;
              }
        ]
      ]

  -- what was read so far, where the next operator binds no tighter than it
  record ReadsSoFar (header : Bool) (least : ℕ) (from : Cursor) (x : Expression × Cursor) : Type 0 where
    spelled : SpellsExpression text as_expression x.0 from x.1
    tight : least ≤ level x.0
    stands_in : StandsIn header x.0
    shallow : expression_depth x.0 ≤ suc below
    loose : IsLooser (suc (level x.0)) (of_next binary_operator x.1)

  -- what was read at some level
  record ReadsAt (header : Bool) (least : ℕ) (from : Cursor) (x : Expression × Cursor) : Type 0 where
    spelled : SpellsExpression text as_expression x.0 from x.1
    tight : least ≤ primary_level → least ≤ level x.0
    stands_in : StandsIn header x.0
    shallow : expression_depth x.0 ≤ suc below
    loose : IsLooser least (of_next binary_operator x.1)

  module _ (header : Bool) (least : ℕ) (from : Cursor) where
    -- a binary expression is one at its operator's level
    binary-sound : (op : BinaryOperator) (e : Expression) (at : Cursor) (x : Expression × Cursor)
        → of_next binary_operator at ≡ Some op
        → least ≤ operator_level op
        → ReadsSoFar header least from (e, at)
        → expression_depth e ≤ below
        → r.read_expression header (suc (operator_level op)) (behind at)
        >>= (λ right. Some (spanned from (binary_expression op e right.0) right.1)) ≡ Some x
        → ReadsSoFar header least from x
    unfolding SpellsExpression SpellsForm expression_depth has_bare_literal
    binary-sound op e at x found enough h shallow read =
        let next = suc (operator_level op) in
        option_and_then_some _ (r.read_expression header next (behind at)) x read λ right right-read right-then.
        let grown = spanned from (binary_expression op e right.0) right.1 in
        let sign = binary_operator-sound at op found in
        let k = sound.expression header next (behind at) right.1 right.0 right-read in
        let most = operator_level_most op in
        let tighter = k.1 (omega arith) in
        let looser = subst (IsLooser (suc (level e))) found h.loose in
        let a = shallow in
        let b = k.3 in
        given (ReadsSoFar header least from) grown x right-then record {
          spelled = ((tt, ((omega arith, omega arith), (at, h.spelled, (_, sign, k.0)))), refl, refl);
          tight = enough;
          stands_in = stands_in-both header e right.0 grown.0 refl h.stands_in k.2;
          shallow = omega arith;
          loose = k.4;
        }

    read_operator-sound : (e : Expression) (at : Cursor) (o : Option BinaryOperator) (grown : Read Expression)
        → (x : Expression × Cursor)
        → of_next binary_operator at ≡ o
        → ReadsSoFar header least from (e, at)
        → expression_depth e ≤ below
        → read_operator text r below header least from e at o ≡ Some grown
        → grown ≡ Some x
        → ReadsSoFar header least from x
    read_operator-sound e at None grown x found h shallow read is_x = absurd (none-some grown read)
    read_operator-sound e at (Some op) grown x found h shallow read is_x =
        elim (two_ways (nat_le least (operator_level op)) _ _ (Some grown) read) [
          | inl c ↦ binary-sound op e at x found (leb-true least _ c.0) h shallow (same_Some _ grown c.1 ∙ is_x)
          | inr c ↦ absurd (none-some grown c.1)
        ]

    -- where reading stops, the next operator is too loose
    stops_looser : (e : Expression) (at : Cursor) (o : Option BinaryOperator)
        → read_operator text r below header least from e at o ≡ None
        → IsLooser least o
    stops_looser e at None stops = tt
    stops_looser e at (Some op) stops =
        elim (two_ways (nat_le least (operator_level op)) _ _ None stops) [
          | inl c ↦ absurd (none-some _ (sym c.1))
          | inr c ↦ leb-false least (operator_level op) c.0
        ]

    read_operators-sound : (n : ℕ) (e : Expression) (at : Cursor) (x : Expression × Cursor)
        → ReadsSoFar header least from (e, at)
        → read_operators text r below header least from n e at ≡ Some x
        → ReadsAt header least from x
    unfolding read_operators
    read_operators-sound zero e at x h read = absurd (none-some x read)
    read_operators-sound (suc n) e at x h read =
        let next = of_next binary_operator at in
        let operator = read_operator text r below header least from e at next in
        go_on-sound text r below (ReadsAt header least from) (read_operators text r below header least from n) e at
        operator x
        (λ stops. record {
          spelled = h.spelled;
          tight = λ most. h.tight;
          stands_in = h.stands_in;
          shallow = h.shallow;
          loose = stops_looser e at next stops;
        })
        (λ grown g found is_g shallow more.
        read_operators-sound n g.0 g.1 x (read_operator-sound e at next grown g refl h shallow found is_g) more)
        read

    read_at-sound : (x : Expression × Cursor)
        → read_expression_of text r below header least from ≡ Some x
        → ReadsAt header least from x
    unfolding read_expression_of
    read_at-sound x e =
        elim (two_ways (nat_le primary_level least) _ _ (Some x) e) [
          | inl c ↦ (let h = read_primary-sound text r below sound header from x c.1 in
              let high = leb-true primary_level least c.0 in
              let seven = h.primary in
              record {
                spelled = h.spelled;
                tight = λ most. omega arith;
                stands_in = h.stands_in;
                shallow = h.shallow;
                loose = all_looser least (of_next binary_operator x.1) (omega arith);
              })
          | inr c ↦ elim (two_ways (nat_le unary_level least) _ _ (Some x) c.1) [
            | inl d ↦ (let h = read_unary-sound header from x d.1 in
                let high = leb-true unary_level least d.0 in
                let low = leb-false primary_level least c.0 in
                let tight = h.tight in
                record {
                  spelled = h.spelled;
                  tight = λ most. omega arith;
                  stands_in = h.stands_in;
                  shallow = h.shallow;
                  loose = all_looser least (of_next binary_operator x.1) high;
                })
            | inr d ↦ option_and_then_some _ (read_unary text r below header from) x d.1 λ v v-read v-then.
                let h = read_unary-sound header from v v-read in
                let low = leb-false unary_level least d.0 in
                let tight = h.tight in
                read_operators-sound (steps v.1) v.0 v.1 x record {
                  spelled = h.spelled;
                  tight = omega arith;
                  stands_in = h.stands_in;
                  shallow = h.shallow;
                  loose = all_looser (suc (level v.0)) (of_next binary_operator v.1) (omega arith);
                } v-then
          ]
        ]

  pub read_expression_of-sound : (header : Bool) (least : ℕ) (from to : Cursor) (e : Expression)
      → read_expression_of text r below header least from ≡ Some (e, to)
      → SpellsExpression text as_expression e from to
      × (least ≤ primary_level → least ≤ level e) × StandsIn header e × (expression_depth e ≤ suc below)
      × IsLooser least (of_next binary_operator to)
  read_expression_of-sound header least from to e read =
      let h = read_at-sound header least from (e, to) read in
      (h.spelled, h.tight, h.stands_in, h.shallow, h.loose)

  abbrev ReadsValue : Cursor → Expression × Cursor → Type 0
  ReadsValue from x = SpellsExpression text as_value x.0 from x.1 × (expression_depth x.0 ≤ suc below)

  pub read_value_of-sound : (from to : Cursor) (e : Expression)
      → read_value_of text r below from ≡ Some (e, to)
      → SpellsExpression text as_value e from to × (expression_depth e ≤ suc below)
  unfolding read_value_of SpellsExpression SpellsForm expression_depth
  read_value_of-sound from to e read =
      elim (two_ways (stands LeftBrace from) _ _ (Some (e, to)) read) [
        | inl c ↦ option_and_then_some _ (read_braced_elements text r from) (e, to) c.1 λ es es-read es-then.
            let h = read_braced_elements-sound text r below sound from es es-read in
            let a = h.1 in
            given (ReadsValue from) (spanned from (literal_value es.0) es.1) (e, to) es-then
            (((tt, h.0), refl, refl), omega arith)
        | inr c ↦ (let h = read_expression_of-sound false 1 from to e c.1 in
            (expression_is_value text e from to h.0, h.3))
      ]
