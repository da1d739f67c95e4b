-- The lists of expressions that the reader reads are spelled by their tokens, and no deeper than their parts may be.
use Rattle.std.proofs.Common.{◌≡◌, ℕ, zero, suc, ◌≤◌, Bool, true, false, List, inl, inr, refl, subst, arith}
use Rattle.std.specs.Prelude.{Some}
use Rattle.std.proofs.lemmas.Option.{none-some, option_and_then_some}
use Rattle.lexer.specs.declared.token.TokenKind.{TokenKind}
use Rattle.lexer.specs.declared.token.TokenKind.TheVariants.{Ellipsis, RightParenthesis, LeftBrace, RightBrace, Comma, Colon}
use Rattle.tree.specs.declared.operator.ChanDirection.TheVariants.{Both, Send, Receive}
use Rattle.tree.specs.declared.operator.UnaryOperator.TheVariants.{Tilde}
use Rattle.tree.specs.Syntax.{Expression, expression_node, name_expression, key_value, channel_type, Expressions, no_expression, expression_and, OptionalExpression, missing_expression, present_expression, unary_expression}
use Rattle.tree.specs.Depth.{expression_depth, expressions_depth, optional_depth}
use Rattle.meaning.specs.Cursor.{GoText, Cursor, ◌⨾◌, token, optional, only_if}
use Rattle.meaning.specs.WellFormed.{FitHeader, OptionalFitsHeader}
use Rattle.meaning.specs.Grammar.{as_expression, as_value, as_element, arguments, in_braces, elements, SpellsExpression, SpellsForm, SpellsExpressions, SpellsMore, SpellsOptional, as_constraint}
use Rattle.tree_reader.specs.Reading.{stands, behind, steps}
use Rattle.tree_reader.specs.Reader.{Readers, read_more_expressions, read_expressions, read_expression_unless, read_element, read_elements, read_braced_elements, read_arguments}
use Rattle.tree_reader.specs.Claims.{StandsIn, AreSound}
use Rattle.tree_reader.proofs.Steps.{given, two_ways, stands-sound, take-sound, past-optional}

-- expressions that can stand where they are read
abbrev pub StandIn : Bool → Expressions → Type 0
StandIn true es = FitHeader es
StandIn false es = Unit {0}

abbrev pub OptionalStandsIn : Bool → OptionalExpression → Type 0
OptionalStandsIn true e = OptionalFitsHeader e
OptionalStandsIn false e = Unit {0}

stand_in-none : (header : Bool) → StandIn header no_expression
stand_in-none true = tt
stand_in-none false = tt

stand_in-and : (header : Bool) (e : Expression) (es : Expressions)
    → StandsIn header e
    → StandIn header es
    → StandIn header (expression_and e es)
stand_in-and true e es h more = (h, more)
stand_in-and false e es h more = tt

optional_stands_in-missing : (header : Bool) → OptionalStandsIn header missing_expression
optional_stands_in-missing true = tt
optional_stands_in-missing false = tt

optional_stands_in-present : (header : Bool) (e : Expression)
    → StandsIn header e
    → OptionalStandsIn header (present_expression e)
optional_stands_in-present true e h = h
optional_stands_in-present false e h = tt

-- what stands at a key or a value is an element
value_is_element : (text : GoText) (e : Expression) (from to : Cursor)
    → SpellsExpression text as_value e from to
    → SpellsExpression text as_element e from to
unfolding SpellsExpression SpellsForm
value_is_element text (expression_node (name_expression n) span) from to h = h
value_is_element text (expression_node (key_value k v) span) from to h = cc
value_is_element text (expression_node (unary_expression Tilde e) span) from to h =
    let p : as_value ≡ as_constraint = h.0.0 in cc
value_is_element text (expression_node (channel_type Both t) span) from to h = h
value_is_element text (expression_node (channel_type Send t) span) from to h = h
value_is_element text (expression_node (channel_type Receive t) span) from to h = h
value_is_element text (expression_node _ span) from to h = h

module _ (text : GoText) (r : Readers) (below : ℕ) (sound : AreSound text below r) where
  abbrev pub ReadsMore : Bool → Cursor → Expressions × Cursor → Type 0
  ReadsMore header from x =
      SpellsMore text as_expression x.0 from x.1 × StandIn header x.0 × (expressions_depth x.0 ≤ below)

  abbrev pub ReadsExpressions : Bool → Cursor → Expressions × Cursor → Type 0
  ReadsExpressions header from x =
      SpellsExpressions text as_expression x.0 from x.1 × StandIn header x.0 × (expressions_depth x.0 ≤ below)

  read_more_expressions-sound : (header : Bool) (n : ℕ) (from : Cursor) (x : Expressions × Cursor)
      → read_more_expressions text r header n from ≡ Some x
      → ReadsMore header from x
  unfolding read_more_expressions SpellsMore expressions_depth
  read_more_expressions-sound header zero from x e = absurd (none-some x e)
  read_more_expressions-sound header (suc n) from x e =
      elim (two_ways (stands Comma from) _ _ (Some x) e) [
        | inl c ↦ option_and_then_some _ _ x c.1 λ first first-read first-then.
            option_and_then_some _ _ x first-then λ more more-read more-then.
            let h = sound.expression header 1 (behind from) first.1 first.0 first-read in
            let k = read_more_expressions-sound header n first.1 more more-read in
            let a = h.3 in
            let b = k.2 in
            given (ReadsMore header from) _ x more-then
            ((_, stands-sound Comma from c.0, (_, h.0, k.0)), stand_in-and header first.0 more.0 h.2 k.1, omega arith)
        | inr c ↦ given (ReadsMore header from) _ x c.1 (refl, stand_in-none header, omega arith)
      ]

  pub read_expressions-sound : (header : Bool) (from : Cursor) (x : Expressions × Cursor)
      → read_expressions text r header from ≡ Some x
      → ReadsExpressions header from x
  unfolding read_expressions SpellsExpressions expressions_depth
  read_expressions-sound header from x e =
      option_and_then_some _ _ x e λ first first-read first-then.
      option_and_then_some _ _ x first-then λ more more-read more-then.
      let h = sound.expression header 1 from first.1 first.0 first-read in
      let k = read_more_expressions-sound header (steps first.1) first.1 more more-read in
      let a = h.3 in
      let b = k.2 in
      given (ReadsExpressions header from) _ x more-then
      ((_, h.0, k.0), stand_in-and header first.0 more.0 h.2 k.1, omega arith)

  abbrev pub ReadsOptional : Bool → Cursor → OptionalExpression × Cursor → Type 0
  ReadsOptional header from x =
      SpellsOptional text as_expression x.0 from x.1 × OptionalStandsIn header x.0 × (optional_depth x.0 ≤ below)

  pub read_expression_unless-sound : (kind : TokenKind) (header : Bool) (from : Cursor)
      → (x : OptionalExpression × Cursor)
      → read_expression_unless text r kind header from ≡ Some x
      → ReadsOptional header from x
  unfolding read_expression_unless SpellsOptional optional_depth
  read_expression_unless-sound kind header from x e =
      elim (two_ways (stands kind from) _ _ (Some x) e) [
        | inl c ↦ given (ReadsOptional header from) _ x c.1 (refl, optional_stands_in-missing header, omega arith)
        | inr c ↦ option_and_then_some _ _ x c.1 λ first first-read first-then.
            let h = sound.expression header 1 from first.1 first.0 first-read in
            given (ReadsOptional header from) _ x first-then (h.0, optional_stands_in-present header first.0 h.2, h.3)
      ]

  abbrev pub ReadsElement : Cursor → Expression × Cursor → Type 0
  ReadsElement from x = SpellsExpression text as_element x.0 from x.1 × (expression_depth x.0 ≤ below)

  read_element-sound : (from : Cursor) (x : Expression × Cursor)
      → read_element text r from ≡ Some x
      → ReadsElement from x
  unfolding read_element SpellsExpression SpellsForm expression_depth
  read_element-sound from x e =
      option_and_then_some _ _ x e λ first first-read first-then.
      let k = sound.value from first.1 first.0 first-read in
      elim (two_ways (stands Colon first.1) _ _ (Some x) first-then) [
        | inl c ↦ option_and_then_some _ _ x c.1 λ value value-read value-then.
            let v = sound.value (behind first.1) value.1 value.0 value-read in
            let a = k.1 in
            let b = v.1 in
            given (ReadsElement from) _ x value-then
            (((refl, (_, k.0, (_, stands-sound Colon first.1 c.0, v.0))), refl, refl), omega arith)
        | inr c ↦ given (ReadsElement from) first x c.1 (value_is_element text first.0 from first.1 k.0, k.1)
      ]

  -- elements after a comma, and perhaps a comma after them
  abbrev SpellsRest : Expressions → Cursor → Cursor → Type 0
  SpellsRest es = SpellsMore text as_element es ⨾ optional (token Comma)

  elements_rest : (es : Expressions) (from inner to : Cursor)
      → token Comma from inner
      → elements es (SpellsExpressions text as_element es) inner to
      → SpellsRest es from to
  unfolding SpellsMore SpellsExpressions
  elements_rest no_expression from inner to comma h = (from, refl, inr (subst (token Comma from) h comma))
  elements_rest (expression_and e es) from inner to comma (between, (first, h, more), last) =
      (between, (_, comma, (first, h, more)), last)

  abbrev ReadsElements : Cursor → Expressions × Cursor → Type 0
  ReadsElements from x = elements x.0 (SpellsExpressions text as_element x.0) from x.1 × (expressions_depth x.0 ≤ below)

  elements_and : (e : Expression) (es : Expressions) (from between to : Cursor)
      → SpellsExpression text as_element e from between
      → SpellsRest es between to
      → elements (expression_and e es) (SpellsExpressions text as_element (expression_and e es)) from to
  unfolding SpellsExpressions
  elements_and e es from between to h rest = (rest.0, (_, h, rest.1), rest.2)

  read_elements-sound : (n : ℕ) (from : Cursor) (x : Expressions × Cursor)
      → read_elements text r n from ≡ Some x
      → ReadsElements from x
  unfolding read_elements SpellsMore expressions_depth
  read_elements-sound zero from x e = absurd (none-some x e)
  read_elements-sound (suc n) from x e =
      elim (two_ways (stands RightBrace from) _ _ (Some x) e) [
        | inl c ↦ given (ReadsElements from) _ x c.1 (refl, omega arith)
        | inr c ↦ option_and_then_some _ _ x c.1 λ first first-read first-then.
            let h = read_element-sound from first first-read in
            let a = h.1 in
            elim (two_ways (stands Comma first.1) _ _ (Some x) first-then) [
              | inl d ↦ option_and_then_some _ _ x d.1 λ more more-read more-then.
                  let k = read_elements-sound n (behind first.1) more more-read in
                  let b = k.1 in
                  let comma = stands-sound Comma first.1 d.0 in
                  let rest = elements_rest more.0 first.1 (behind first.1) more.1 comma k.0 in
                  given (ReadsElements from) _ x more-then
                  (elements_and first.0 more.0 from first.1 more.1 h.0 rest, omega arith)
              | inr d ↦ given (ReadsElements from) _ x d.1
                  (elements_and first.0 no_expression from first.1 first.1 h.0 (_, refl, inl refl), omega arith)
            ]
      ]

  abbrev pub ReadsBracedElements : Cursor → Expressions × Cursor → Type 0
  ReadsBracedElements from x =
      in_braces (elements x.0 (SpellsExpressions text as_element x.0)) from x.1 × (expressions_depth x.0 ≤ below)

  pub read_braced_elements-sound : (from : Cursor) (x : Expressions × Cursor)
      → read_braced_elements text r from ≡ Some x
      → ReadsBracedElements from x
  unfolding read_braced_elements
  read_braced_elements-sound from x e =
      option_and_then_some _ _ x e λ inner inner-read inner-then.
      option_and_then_some _ _ x inner-then λ es es-read es-then.
      option_and_then_some _ _ x es-then λ end end-read end-then.
      let h = read_elements-sound (steps inner) inner es es-read in
      given (ReadsBracedElements from) _ x end-then
      ((_, take-sound LeftBrace from inner inner-read, (_, h.0, take-sound RightBrace es.1 end end-read)), h.1)

  -- arguments after a comma, and what may follow them
  abbrev SpellsOthers : Expressions → Bool → Cursor → Cursor → Type 0
  SpellsOthers es ellipsis =
      SpellsMore text as_expression es ⨾ only_if ellipsis (token Ellipsis) ⨾ optional (token Comma)

  no_others : (to : Cursor) → SpellsOthers no_expression false to to
  unfolding SpellsMore
  no_others to = (to, refl, (to, refl, inl refl))

  arguments_rest : (es : Expressions) (ellipsis : Bool) (from inner to : Cursor)
      → token Comma from inner
      → arguments es ellipsis (SpellsExpressions text as_expression es) inner to
      → SpellsOthers es ellipsis from to
  unfolding SpellsMore SpellsExpressions
  arguments_rest no_expression true from inner to comma h = absurd h
  arguments_rest no_expression false from inner to comma h =
      (from, refl, (from, refl, inr (subst (token Comma from) h comma)))
  arguments_rest (expression_and e es) ellipsis from inner to comma (between, (first, h, more), last) =
      (between, (_, comma, (first, h, more)), last)

  abbrev pub ReadsArguments : Cursor → (Expressions × Bool) × Cursor → Type 0
  ReadsArguments from x =
      arguments x.0.0 x.0.1 (SpellsExpressions text as_expression x.0.0) from x.1 × (expressions_depth x.0.0 ≤ below)

  arguments_and : (e : Expression) (es : Expressions) (ellipsis : Bool) (from between to : Cursor)
      → SpellsExpression text as_expression e from between
      → SpellsOthers es ellipsis between to
      → arguments (expression_and e es) ellipsis (SpellsExpressions text as_expression (expression_and e es)) from to
  unfolding SpellsExpressions
  arguments_and e es ellipsis from between to h rest = (rest.0, (_, h, rest.1), rest.2)

  pub read_arguments-sound : (n : ℕ) (from : Cursor) (x : (Expressions × Bool) × Cursor)
      → read_arguments text r n from ≡ Some x
      → ReadsArguments from x
  unfolding read_arguments SpellsMore expressions_depth
  read_arguments-sound zero from x e = absurd (none-some x e)
  read_arguments-sound (suc n) from x e =
      elim (two_ways (stands RightParenthesis from) _ _ (Some x) e) [
        | inl c ↦ given (ReadsArguments from) _ x c.1 (refl, omega arith)
        | inr c ↦ option_and_then_some _ _ x c.1 λ first first-read first-then.
            let h = sound.expression false 1 from first.1 first.0 first-read in
            let a = h.3 in
            elim (two_ways (stands Ellipsis first.1) _ _ (Some x) first-then) [
              | inl d ↦ let dots = stands-sound Ellipsis first.1 d.0 in
                  let comma = past-optional Comma (behind first.1) in
                  given (ReadsArguments from) _ x d.1
                  (arguments_and first.0 no_expression true from first.1 _ h.0 (_, refl, (_, dots, comma)), omega arith)
              | inr d ↦ elim (two_ways (stands Comma first.1) _ _ (Some x) d.1) [
                | inl f ↦ option_and_then_some _ _ x f.1 λ more more-read more-then.
                    let k = read_arguments-sound n (behind first.1) more more-read in
                    let b = k.1 in
                    let comma = stands-sound Comma first.1 f.0 in
                    let rest = arguments_rest more.0.0 more.0.1 first.1 (behind first.1) more.1 comma k.0 in
                    given (ReadsArguments from) _ x more-then
                    (arguments_and first.0 more.0.0 more.0.1 from first.1 more.1 h.0 rest, omega arith)
                | inr f ↦ given (ReadsArguments from) _ x f.1
                    (arguments_and first.0 no_expression false from first.1 _ h.0 (no_others first.1), omega arith)
              ]
            ]
      ]
