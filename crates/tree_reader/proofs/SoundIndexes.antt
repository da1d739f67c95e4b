-- What stands in brackets behind an expression: an index, the bounds of a slice, or the arguments of an instance, as the
-- reader reads them, is spelled by its tokens, and no deeper than it may be.
use Rattle.std.proofs.Common.{◌≡◌, ℕ, zero, suc, ◌≤◌, max, Bool, true, false, true≢false, if◌then◌else◌, ◌&&◌, ◌⊎◌, inl, inr, refl, sym, ◌∙◌, subst, List, arith}
use Rattle.std.specs.Prelude.{Option, Some, None}
use Rattle.std.proofs.lemmas.Option.{none-some, option_and_then_some}
use Rattle.std.proofs.lemmas.Bool.{and_parts}
use Rattle.lexer.specs.declared.token.TokenKind.TheVariants.{LeftBracket, RightBracket, Colon, Comma}
use Rattle.tree.specs.declared.edition.Edition.{Edition}
use Rattle.tree.specs.declared.edition.Edition.TheVariants.{First, Second}
use Rattle.tree.specs.Syntax.{Expression, expression_node, index_expression, instance_expression, slice_expression, Expressions, no_expression, expression_and, OptionalExpression, missing_expression, present_expression}
use Rattle.tree.specs.Depth.{expression_depth, expressions_depth, optional_depth}
use Rattle.meaning.specs.Cursor.{GoText, Cursor, ◌⨾◌, optional, token}
use Rattle.meaning.specs.WellFormed.{IsPrimary, has_bare_literal}
use Rattle.meaning.specs.Grammar.{as_expression, IsSecond, after_instance, third_bound, SpellsExpression, SpellsForm, SpellsExpressions, SpellsMore, SpellsOptional}
use Rattle.tree_reader.specs.Reading.{Read, ◌>>=◌, stands, behind, take, steps, spanned}
use Rattle.tree_reader.specs.Reader.{is_second, Readers, read_any, read_expression_unless, read_more_arguments, read_instance, read_slice, read_index}
use Rattle.tree_reader.specs.Claims.{AreSound}
use Rattle.tree_reader.proofs.Steps.{given, two_ways, stands-sound, take-sound}
use Rattle.tree_reader.proofs.SoundLists.{read_expression_unless-sound}

pub second_is : (edition : Edition) → is_second edition ≡ true → IsSecond edition
second_is First e = absurd (true≢false (sym e))
second_is Second e = tt

-- an expression that stands there, or none
optional_ways : {B : Type 0} (absent : Cursor → B) (present : Expression → Cursor → B) (o : OptionalExpression)
    → (at : Cursor) (z : B)
    → (elim o as (λ x. Cursor → B) [ missing_expression ↦ absent | present_expression e ↦ present e ]) at ≡ z
    → ((o ≡ missing_expression) × (absent at ≡ z))
    ⊎ ((e : Expression) × (o ≡ present_expression e) × (present e at ≡ z))
optional_ways absent present missing_expression at z e = inl (refl, e)
optional_ways absent present (present_expression v) at z e = inr (v, refl, e)

module _ (text : GoText) (r : Readers) (below : ℕ) (sound : AreSound text below r) (from at : Cursor) (e : Expression)
    (tight : IsPrimary e) (begun : SpellsExpression text as_expression e from at) where
  -- brackets that stand behind the expression
  pub record Indexed (x : Expression × Cursor) : Type 0 where
    pub spelled : SpellsExpression text as_expression x.0 from x.1
    pub same : has_bare_literal x.0 ≡ has_bare_literal e
    pub primary : IsPrimary x.0
    pub shallow : expression_depth x.0 ≤ suc (max below (expression_depth e))

  abbrev ReadsBound : Cursor → OptionalExpression × Cursor → Type 0
  ReadsBound start x = SpellsOptional text as_expression x.0 start x.1 × (optional_depth x.0 ≤ below)

  -- the second bound of a slice
  bound-sound : (start : Cursor) (x : OptionalExpression × Cursor)
      → (if stands Colon start
      then Some (missing_expression, start)
      else read_expression_unless text r RightBracket false start) ≡ Some x
      → ReadsBound start x
  unfolding SpellsOptional optional_depth
  bound-sound start x read =
      elim (two_ways (stands Colon start) _ _ (Some x) read) [
        | inl c ↦ given (ReadsBound start) (missing_expression, start) x c.1 (refl, omega arith)
        | inr c ↦ (let h = read_expression_unless-sound text r below sound RightBracket false start x c.1 in (h.0, h.2))
      ]

  abbrev ReadsMost : Cursor → OptionalExpression × Cursor → Type 0
  ReadsMost start x = third_bound x.0 (SpellsOptional text as_expression x.0) start x.1 × (optional_depth x.0 ≤ below)

  most-sound : (start : Cursor) (x : OptionalExpression × Cursor)
      → (if stands Colon start
      then read_any text r (behind start) >>= (λ bound. Some (present_expression bound.0, bound.1))
      else Some (missing_expression, start)) ≡ Some x
      → ReadsMost start x
  unfolding SpellsOptional optional_depth
  most-sound start x read =
      elim (two_ways (stands Colon start) _ _ (Some x) read) [
        | inl c ↦ option_and_then_some _ (read_any text r (behind start)) x c.1 λ bound bound-read bound-then.
            let h = sound.expression false 1 (behind start) bound.1 bound.0 bound-read in
            given (ReadsMost start) (present_expression bound.0, bound.1) x bound-then
            ((_, stands-sound Colon start c.0, h.0), h.3)
        | inr c ↦ given (ReadsMost start) (missing_expression, start) x c.1 (refl, omega arith)
      ]

  abbrev Bounds : OptionalExpression → OptionalExpression → OptionalExpression → Cursor → Cursor → Type 0
  Bounds low high most =
      SpellsOptional text as_expression low ⨾ token Colon ⨾ SpellsOptional text as_expression high
      ⨾ third_bound most (SpellsOptional text as_expression most)

  read_slice-sound : (low : OptionalExpression) (colon : Cursor) (x : Expression × Cursor)
      → stands LeftBracket at ≡ true
      → ReadsBound (behind at) (low, colon)
      → stands Colon colon ≡ true
      → read_slice text r from e low colon ≡ Some x
      → Indexed x
  unfolding read_slice SpellsExpression SpellsForm expression_depth has_bare_literal
  read_slice-sound low colon x bracket first c read =
      option_and_then_some _ _ x read λ high high-read high-then.
      option_and_then_some _ _ x high-then λ most most-read most-then.
      option_and_then_some _ (take RightBracket most.1) x most-then λ end end-read end-then.
      let h = bound-sound (behind colon) high high-read in
      let k = most-sound high.1 most most-read in
      let left = stands-sound LeftBracket at bracket in
      let right = take-sound RightBracket most.1 end end-read in
      let sign = stands-sound Colon colon c in
      let bounds : Bounds low high.0 most.0 (behind at) most.1 = (colon, first.0, (_, sign, (_, h.0, k.0))) in
      let b = first.1 in
      let d = h.1 in
      let f = k.1 in
      given Indexed (spanned from (slice_expression e low high.0 most.0) end) x end-then record {
        spelled = ((tt, (tight, (at, begun, (_, left, (most.1, bounds, right))))), refl, refl);
        same = refl;
        primary = refl;
        shallow = omega arith;
      }

  abbrev ReadsMoreArguments : Cursor → Expressions × Cursor → Type 0
  ReadsMoreArguments start x =
      (SpellsMore text as_expression x.0 ⨾ optional (token Comma)) start x.1 × (expressions_depth x.0 ≤ below)

  more_arguments-sound : (n : ℕ) (start : Cursor) (x : Expressions × Cursor)
      → read_more_arguments text r n start ≡ Some x
      → ReadsMoreArguments start x
  unfolding read_more_arguments SpellsMore expressions_depth
  more_arguments-sound zero start x read = absurd (none-some x read)
  more_arguments-sound (suc n) start x read =
      elim (two_ways (stands Comma start) _ _ (Some x) read) [
        | inl c ↦ elim (two_ways (stands RightBracket (behind start)) _ _ (Some x) c.1) [
          | inl d ↦ given (ReadsMoreArguments start) (no_expression, behind start) x d.1
              ((start, refl, inr (stands-sound Comma start c.0)), omega arith)
          | inr d ↦ option_and_then_some _ (read_any text r (behind start)) x d.1 λ first first-read first-then.
              option_and_then_some _ (read_more_arguments text r n first.1) x first-then λ more more-read more-then.
              let h = sound.expression false 1 (behind start) first.1 first.0 first-read in
              let k = more_arguments-sound n first.1 more more-read in
              let a = h.3 in
              let b = k.1 in
              given (ReadsMoreArguments start) (expression_and first.0 more.0, more.1) x more-then
              ((k.0.0, (_, stands-sound Comma start c.0, (first.1, h.0, k.0.1)), k.0.2), omega arith)
        ]
        | inr c ↦ given (ReadsMoreArguments start) (no_expression, start) x c.1 ((start, refl, inl refl), omega arith)
      ]

  -- behind a comma: one argument alone has the comma behind it
  abbrev ReadsArguments : Expression → Cursor → Expressions × Cursor → Type 0
  ReadsArguments i start x =
      (SpellsMore text as_expression x.0 ⨾ after_instance (expression_and i x.0)) start x.1
      × (expressions_depth x.0 ≤ below)

  arguments-sound : (i : Expression) (n : ℕ) (start : Cursor) (x : Expressions × Cursor)
      → stands Comma start ≡ true
      → read_more_arguments text r n start ≡ Some x
      → ReadsArguments i start x
  unfolding read_more_arguments SpellsMore expressions_depth
  arguments-sound i zero start x comma read = absurd (none-some x read)
  arguments-sound i (suc n) start x comma read =
      elim (two_ways (stands Comma start) _ _ (Some x) read) [
        | inl c ↦ elim (two_ways (stands RightBracket (behind start)) _ _ (Some x) c.1) [
          | inl d ↦ given (ReadsArguments i start) (no_expression, behind start) x d.1
              ((start, refl, stands-sound Comma start c.0), omega arith)
          | inr d ↦ option_and_then_some _ (read_any text r (behind start)) x d.1 λ first first-read first-then.
              option_and_then_some _ (read_more_arguments text r n first.1) x first-then λ more more-read more-then.
              let h = sound.expression false 1 (behind start) first.1 first.0 first-read in
              let k = more_arguments-sound n first.1 more more-read in
              let a = h.3 in
              let b = k.1 in
              given (ReadsArguments i start) (expression_and first.0 more.0, more.1) x more-then
              ((k.0.0, (_, stands-sound Comma start c.0, (first.1, h.0, k.0.1)), k.0.2), omega arith)
        ]
        | inr c ↦ absurd (true≢false (sym comma ∙ c.0))
      ]

  read_instance-sound : (i : Expression) (comma : Cursor) (x : Expression × Cursor)
      → IsSecond text.edition
      → stands LeftBracket at ≡ true
      → SpellsExpression text as_expression i (behind at) comma
      → expression_depth i ≤ below
      → stands Comma comma ≡ true
      → read_instance text r from e i comma ≡ Some x
      → Indexed x
  unfolding read_instance SpellsExpression SpellsForm SpellsExpressions expression_depth expressions_depth has_bare_literal
  read_instance-sound i comma x second bracket first d c read =
      option_and_then_some _ (read_more_arguments text r (steps comma) comma) x read λ more more-read more-then.
      option_and_then_some _ (take RightBracket more.1) x more-then λ end end-read end-then.
      let h = arguments-sound i (steps comma) comma more c more-read in
      let left = stands-sound LeftBracket at bracket in
      let right = take-sound RightBracket more.1 end end-read in
      let es = expression_and i more.0 in
      let a = d in
      let b = h.1 in
      given Indexed (spanned from (instance_expression e es) end) x end-then record {
        spelled = (
          (
            second,
            (
              tt,
              (
                tight,
                (
                  at,
                  begun,
                  (_, left, (more.1, (h.0.0, (comma, first, h.0.1), h.0.2), right)),
                ),
              ),
            ),
          ),
          refl,
          refl,
        );
        same = refl;
        primary = refl;
        shallow = omega arith;
      }

  pub read_index-sound : (x : Expression × Cursor)
      → stands LeftBracket at ≡ true
      → read_index text r from e at ≡ Some x
      → Indexed x
  unfolding read_index SpellsExpression SpellsForm SpellsOptional expression_depth optional_depth has_bare_literal
  read_index-sound x bracket read =
      option_and_then_some _ (read_expression_unless text r Colon false (behind at)) x read λ low low-read low-then.
      let h = read_expression_unless-sound text r below sound Colon false (behind at) low low-read in
      elim (two_ways (stands Colon low.1) _ _ (Some x) low-then) [
        | inl c ↦ read_slice-sound low.0 low.1 x bracket (h.0, h.2) c.0 c.1
        | inr c ↦ elim (optional_ways _ _ low.0 low.1 (Some x) c.1) [
          | inl c ↦ absurd (none-some x c.1)
          | inr c ↦ (let i = subst (λ (o : OptionalExpression). ReadsBound (behind at) (o, low.1)) c.1 (h.0, h.2) in
              let b = i.1 in
              elim (two_ways (is_second text.edition && stands Comma low.1) _ _ (Some x) c.2) [
                | inl d ↦ (let k = and_parts (is_second text.edition) (stands Comma low.1) d.0 in
                    read_instance-sound c.0 low.1 x (second_is text.edition k.0) bracket i.0 b k.1 d.1)
                | inr d ↦ option_and_then_some _ (take RightBracket low.1) x d.1 λ end end-read end-then.
                    let left = stands-sound LeftBracket at bracket in
                    let right = take-sound RightBracket low.1 end end-read in
                    given Indexed (spanned from (index_expression e c.0) end) x end-then record {
                      spelled = ((tt, (tight, (at, begun, (_, left, (low.1, i.0, right))))), refl, refl);
                      same = refl;
                      primary = refl;
                      shallow = omega arith;
                    }
              ])
        ]
      ]
