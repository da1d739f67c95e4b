-- Instances and arrays behind a name, constraints and type parameters, as the reader reads them, are spelled by their
-- tokens, and no deeper than they may be.
use Rattle.std.proofs.Common.{◌≡◌, ℕ, zero, suc, ◌≤◌, Bool, true, false, true≢false, ◌&&◌, not, inl, inr, refl, sym, ◌∙◌, subst, List, arith}
use Rattle.std.specs.Prelude.{Option, Some, None}
use Rattle.std.proofs.lemmas.Option.{none-some, same_Some, option_and_then_some}
use Rattle.std.proofs.lemmas.Bool.{and_parts, leb-true}
use Rattle.lexer.specs.declared.token.TokenKind.TheVariants.{Identifier as identifier_kind, Pipe, LeftBracket, RightBracket, Comma, Tilde as tilde_token}
use Rattle.tree.specs.declared.operator.BinaryOperator.TheVariants.{Or}
use Rattle.tree.specs.declared.operator.UnaryOperator.TheVariants.{Tilde}
use Rattle.tree.specs.declared.operator.ChanDirection.TheVariants.{Both, Send, Receive}
use Rattle.tree.specs.Syntax.{Identifier, Expression, expression_node, name_expression, literal_value, key_value, index_expression, instance_expression, unary_expression, binary_expression, array_type, channel_type, Parameters, no_parameter, named_and, unnamed_and, name_alone_and}
use Rattle.tree.specs.Depth.{expression_depth, parameters_depth}
use Rattle.meaning.specs.Cursor.{GoText, Cursor, Rule, ◌⨾◌, token, word, identifier, is_next}
use Rattle.meaning.specs.OperatorTokens.{can_begin_type}
use Rattle.meaning.specs.WellFormed.{level, unary_level, is_instance, is_type, is_type_form, are_types, names_type, is_constraint, end_constrained}
use Rattle.meaning.specs.TypeParameters.{is_no_index}
use Rattle.meaning.specs.Grammar.{as_type, as_expression, as_constraint, IsSecond, in_brackets, type_parameters, SpellsExpression, SpellsForm, SpellsTypeParameters}
use Rattle.tree_reader.specs.Reading.{stands, behind, take, steps, spanned, word_between, read_identifier}
use Rattle.tree_reader.specs.Reader.{Readers, opens_index, indexed, within, read_index, read_indexed, read_term, read_terms, read_constraint, read_type_parameter, read_type_items, read_type_parameters}
use Rattle.tree_reader.specs.Claims.{AreSound}
use Rattle.tree_reader.proofs.Steps.{given, two_ways, only_where_some, stands-sound, take-sound, read_identifier-sound}
use Rattle.tree_reader.proofs.Taken.{behind_gives}
use Rattle.tree_reader.proofs.SoundIndexes.{read_index-sound}

module _ (text : GoText) where
  -- an expression can stand where a constraint does
  pub expression_is_constraint : (e : Expression) (from to : Cursor)
      → SpellsExpression text as_expression e from to
      → SpellsExpression text as_constraint e from to
  unfolding SpellsExpression SpellsForm
  expression_is_constraint (expression_node (name_expression n) span) from to h = h
  expression_is_constraint (expression_node (literal_value es) span) from to h = absurd h.0.0
  expression_is_constraint (expression_node (key_value k v) span) from to h = cc
  expression_is_constraint (expression_node (unary_expression Tilde e) span) from to h =
      let p : as_expression ≡ as_constraint = h.0.0 in cc
  expression_is_constraint (expression_node (binary_expression op l r) span) from to h =
      let parts = h.0.1.1 in
      let left = expression_is_constraint l from parts.0 parts.1 in
      let right = expression_is_constraint r parts.2.0 to parts.2.2 in
      ((h.0.0, (h.0.1.0, (parts.0, left, (parts.2.0, parts.2.1, right)))), h.1, h.2)
  expression_is_constraint (expression_node (channel_type Both t) span) from to h = h
  expression_is_constraint (expression_node (channel_type Send t) span) from to h = h
  expression_is_constraint (expression_node (channel_type Receive t) span) from to h = h
  expression_is_constraint (expression_node _ span) from to h = h

  -- an instance that was read as an expression is a type, where types stand in its brackets
  pub instance_type-sound : (e : Expression) (from to : Cursor)
      → IsSecond text.edition
      → is_instance e ≡ true
      → is_type e ≡ true
      → SpellsExpression text as_expression e from to
      → SpellsExpression text as_type e from to
  unfolding SpellsExpression SpellsForm is_type
  instance_type-sound (expression_node (index_expression e i) span) from to second instance types h =
      let tests = and_parts (names_type e) (is_type i) types in
      (((second, tests.0, tests.1), h.0.1), h.1, h.2)
  instance_type-sound (expression_node (instance_expression e es) span) from to second instance types h =
      let tests = and_parts (names_type e) (are_types es) types in
      ((second, ((second, tests.0, tests.1), h.0.1.1)), h.1, h.2)
  instance_type-sound (expression_node _ span) from to second instance types h = cc

  -- an index is a name and what stands in brackets
  pub indexed-sound : (e : Expression) (x : Identifier × Expression) (from to : Cursor)
      → indexed e ≡ Some x
      → SpellsExpression text as_expression e from to
      → identifier text x.0 from (behind from) × in_brackets (SpellsExpression text as_expression x.1) (behind from) to
  unfolding SpellsExpression SpellsForm
  indexed-sound (expression_node (index_expression (expression_node (name_expression name) at) i) span) x from to e h =
      let mid : Cursor = h.0.1.1.0 in
      let operand = h.0.1.1.1 in
      let spelled : word text name from mid = subst (λ (c : Cursor). word text name from c) operand.0.2 operand.0.1 in
      let same : mid ≡ behind from = sym (behind_gives spelled.0) in
      let n : Identifier = record { text = name; span = at } in
      let whole : identifier text n from mid = (spelled, operand.1, operand.2) in
      given (λ (x : Identifier × Expression). identifier text x.0 from (behind from)
      × in_brackets (SpellsExpression text as_expression x.1) (behind from) to) (n, i) x e (
        subst (λ (c : Cursor). identifier text n from c) same whole,
        subst (λ (c : Cursor). in_brackets (SpellsExpression text as_expression i) c to) same h.0.1.1.2,
      )
  indexed-sound (expression_node (index_expression (expression_node _ at) i) span) x from to e h = absurd (none-some x e)
  indexed-sound (expression_node _ span) x from to e h = absurd (none-some x e)

  -- a name with an array's type behind it, or an instance
  abbrev pub IsIndexed : Option Identifier → Expression → Cursor → Cursor → Type 0
  IsIndexed None t from to = SpellsExpression text as_type t from to × (is_instance t ≡ true)
  IsIndexed (Some n) t from to = (identifier text n ⨾ SpellsExpression text as_type t) from to

  -- type parameters stand there, where they are allowed
  pub parameters_there : (allowed : Type 0) (ps : Parameters) (list : Rule) (from to : Cursor)
      → allowed
      → end_constrained ps ≡ true
      → in_brackets list from to
      → type_parameters allowed ps list from to
  parameters_there allowed no_parameter list from to a e h = absurd (true≢false (sym e))
  parameters_there allowed (named_and n ellipsis t ps) list from to a e h = (a, (e, h))
  parameters_there allowed (unnamed_and ellipsis t ps) list from to a e h = (a, (e, h))
  parameters_there allowed (name_alone_and n ps) list from to a e h = (a, (e, h))

  -- the first type parameters stand behind a comma as well
  type_items_rest : (ps : Parameters) (from inner to : Cursor)
      → token Comma from inner
      → SpellsTypeParameters text true ps inner to
      → SpellsTypeParameters text false ps from to
  unfolding SpellsTypeParameters
  type_items_rest no_parameter from inner to comma h = inr (subst (token Comma from) h comma)
  type_items_rest (named_and n ellipsis t ps) from inner to comma (flat, (fits, (start, h, more))) =
      (flat, (fits, (start, subst (token Comma from) h comma, more)))
  type_items_rest (unnamed_and ellipsis t ps) from inner to comma h = absurd h
  type_items_rest (name_alone_and n ps) from inner to comma (start, h, more) =
      (start, subst (token Comma from) h comma, more)

module _ (text : GoText) (r : Readers) (below : ℕ) (sound : AreSound text below r) where
  pub within-sound : (e x : Expression × Cursor)
      → within text r e ≡ Some x
      → (e ≡ x) × (expression_depth x.0 ≤ below)
  within-sound e x h =
      let k = only_where_some _ (Some e) x h in
      let same = same_Some e x k.1 in
      let fits = leb-true (expression_depth e.0) r.most k.0 in
      let shallow = subst (λ (m : ℕ). expression_depth e.0 ≤ m) sound.most fits in
      (same, subst (λ (y : Expression × Cursor). expression_depth y.0 ≤ below) same shallow)

  abbrev named : Cursor → Expression
  named from = (spanned from (name_expression (word_between text from (behind from))) (behind from)).0

  name_spelled : (from : Cursor)
      → stands identifier_kind from ≡ true
      → SpellsExpression text as_expression (named from) from (behind from)
  unfolding SpellsExpression SpellsForm
  name_spelled from e = ((_, (stands-sound identifier_kind from e, refl), refl), refl, refl)

  pub array_spelled : (n t : Expression) (from inner to : Cursor)
      → in_brackets (SpellsExpression text as_expression n) from inner
      → SpellsExpression text as_type t inner to
      → SpellsExpression text as_type (spanned from (array_type n t) to).0 from to
  unfolding SpellsExpression SpellsForm
  array_spelled n t from inner to length element = ((inner, length, (to, element, refl)), refl, refl)

  abbrev pub ReadsIndexed : Cursor → (Option Identifier × Expression) × Cursor → Type 0
  ReadsIndexed from x = IsIndexed text x.0.0 x.0.1 from x.1 × (expression_depth x.0.1 ≤ below)

  pub read_indexed-sound : (from : Cursor) (x : (Option Identifier × Expression) × Cursor)
      → IsSecond text.edition
      → stands identifier_kind from ≡ true
      → opens_index (behind from) ≡ true
      → read_indexed text r from ≡ Some x
      → ReadsIndexed from x
  unfolding read_indexed
  read_indexed-sound from x second name opens e =
      let at = behind from in
      let bracket = (and_parts (stands LeftBracket at) (not (is_next is_no_index (behind at))) opens).0 in
      option_and_then_some _ (read_index text r from (named from) at) x e λ i i-read i-then.
      let h = read_index-sound text r below sound from at (named from) refl (name_spelled from name) i bracket i-read in
      elim (two_ways (is_next can_begin_type i.1) _ _ (Some x) i-then) [
        | inl c ↦ option_and_then_some _ (indexed i.0) x c.1 λ part part-read part-then.
            option_and_then_some _ (r.read_type i.1) x part-then λ t t-read t-then.
            let array = spanned at (array_type part.1 t.0) t.1 in
            option_and_then_some _ (within text r array) x t-then λ a a-read a-then.
            let k = indexed-sound text i.0 part from i.1 part-read h.spelled in
            let m = sound.type i.1 t.1 t.0 t-read in
            let w = within-sound array a a-read in
            let spelled = array_spelled part.1 t.0 at i.1 t.1 k.1 m.0 in
            let there : SpellsExpression text as_type a.0 at a.1 =
            subst (λ (y : Expression × Cursor). SpellsExpression text as_type y.0 at y.1) w.0 spelled in
            given (ReadsIndexed from) ((Some part.0, a.0), a.1) x a-then ((at, k.0, there), w.1)
        | inr c ↦ option_and_then_some _ (within text r i) x c.1 λ t t-read t-then.
            let w = within-sound i t t-read in
            let k = only_where_some (is_instance t.0 && is_type t.0) _ x t-then in
            let tests = and_parts (is_instance t.0) (is_type t.0) k.0 in
            let spelled = subst (λ (y : Expression × Cursor). SpellsExpression text as_expression y.0 from y.1) w.0
            h.spelled in
            let type = instance_type-sound text t.0 from t.1 second tests.0 tests.1 spelled in
            given (ReadsIndexed from) ((None, t.0), t.1) x k.1 ((type, tests.0), w.1)
      ]

  abbrev ReadsTerm : Cursor → Expression × Cursor → Type 0
  ReadsTerm from x = SpellsExpression text as_constraint x.0 from x.1 × (unary_level ≤ level x.0)

  read_term-sound : (from : Cursor) (x : Expression × Cursor) → read_term text r from ≡ Some x → ReadsTerm from x
  unfolding read_term SpellsExpression SpellsForm
  read_term-sound from x e =
      elim (two_ways (stands tilde_token from) _ _ (Some x) e) [
        | inl c ↦ option_and_then_some _ (r.read_expression false unary_level (behind from)) x c.1 λ t t-read t-then.
            let h = sound.expression false unary_level (behind from) t.1 t.0 t-read in
            given (ReadsTerm from) (spanned from (unary_expression Tilde t.0) t.1) x t-then
            (((refl, (h.1 (omega arith), (_, stands-sound tilde_token from c.0, h.0))), refl, refl), omega arith)
        | inr c ↦ (let h = sound.expression false unary_level from x.1 x.0 c.1 in
            (expression_is_constraint text x.0 from x.1 h.0, h.1 (omega arith)))
      ]

  read_terms-sound : (from : Cursor) (n : ℕ) (e : Expression) (at : Cursor) (x : Expression × Cursor)
      → SpellsExpression text as_constraint e from at
      → 4 ≤ level e
      → read_terms text r from n e at ≡ Some x
      → SpellsExpression text as_constraint x.0 from x.1
  unfolding read_terms SpellsExpression SpellsForm
  read_terms-sound from zero e at x spelled tight read = absurd (none-some x read)
  read_terms-sound from (suc n) e at x spelled tight read =
      elim (two_ways (stands Pipe at) _ _ (Some x) read) [
        | inl c ↦ option_and_then_some _ (read_term text r (behind at)) x c.1 λ t t-read t-then.
            let k = read_term-sound (behind at) t t-read in
            let tighter = k.1 in
            read_terms-sound from n (spanned from (binary_expression Or e t.0) t.1).0 t.1 x
            ((tt, ((omega arith, omega arith), (at, spelled, (_, stands-sound Pipe at c.0, k.0)))), refl, refl)
            (omega arith) t-then
        | inr c ↦ given (λ (x : Expression × Cursor). SpellsExpression text as_constraint x.0 from x.1) (e, at) x c.1
            spelled
      ]

  abbrev pub ReadsConstraint : Cursor → Expression × Cursor → Type 0
  ReadsConstraint from x =
      SpellsExpression text as_constraint x.0 from x.1 × (is_constraint x.0 ≡ true) × (expression_depth x.0 ≤ below)

  pub read_constraint-sound : (from : Cursor) (x : Expression × Cursor)
      → read_constraint text r from ≡ Some x
      → ReadsConstraint from x
  unfolding read_constraint
  read_constraint-sound from x e =
      option_and_then_some _ (read_term text r from) x e λ t t-read t-then.
      option_and_then_some _ (read_terms text r from (steps t.1) t.0 t.1) x t-then λ c c-read c-then.
      let h = read_term-sound from t t-read in
      let tight = h.1 in
      let k = only_where_some (is_constraint c.0) (within text r c) x c-then in
      let w = within-sound c x k.1 in
      let spelled = read_terms-sound from (steps t.1) t.0 t.1 c h.0 (omega arith) c-read in
      let there : SpellsExpression text as_constraint x.0 from x.1 =
      subst (λ (y : Expression × Cursor). SpellsExpression text as_constraint y.0 from y.1) w.0 spelled in
      let fits : is_constraint x.0 ≡ true =
      subst (λ (y : Expression × Cursor). is_constraint y.0 ≡ true) w.0 k.0 in
      (there, fits, w.1)

  -- a type parameter is one where it is before others
  record ReadsTypeParameter (from : Cursor) (x : (Parameters → Parameters) × Cursor) : Type 0 where
    spelled : (ps : Parameters) (to : Cursor)
        → SpellsTypeParameters text false ps x.1 to
        → SpellsTypeParameters text true (x.0 ps) from to
    shallow : (ps : Parameters) → parameters_depth ps ≤ below → parameters_depth (x.0 ps) ≤ below

  read_type_parameter-sound : (from : Cursor) (x : (Parameters → Parameters) × Cursor)
      → read_type_parameter text r from ≡ Some x
      → ReadsTypeParameter from x
  unfolding read_type_parameter SpellsTypeParameters parameters_depth
  read_type_parameter-sound from x e =
      option_and_then_some _ (read_identifier text from) x e λ n n-read n-then.
      let name = read_identifier-sound text from n n-read in
      elim (two_ways (stands Comma n.1) _ _ (Some x) n-then) [
        | inl c ↦ given (ReadsTypeParameter from) (name_alone_and n.0, n.1) x c.1 record {
          spelled = λ ps to more. (from, refl, (n.1, name, more));
          shallow = λ ps d. d;
        }
        | inr c ↦ option_and_then_some _ (read_constraint text r n.1) x c.1 λ t t-read t-then.
            let h = read_constraint-sound n.1 t t-read in
            let a = h.2 in
            given (ReadsTypeParameter from) (named_and n.0 false t.0, t.1) x t-then record {
              spelled = λ ps to more. (refl, (h.1, (from, refl, (n.1, name, (t.1, h.0, more)))));
              shallow = λ ps d. omega arith;
            }
      ]

  abbrev ReadsTypeItems : Cursor → Parameters × Cursor → Type 0
  ReadsTypeItems from x = SpellsTypeParameters text true x.0 from x.1 × (parameters_depth x.0 ≤ below)

  last_type_item : (to : Cursor) → SpellsTypeParameters text false no_parameter to to
  unfolding SpellsTypeParameters
  last_type_item to = inl refl

  no_type_item : (to : Cursor) → SpellsTypeParameters text true no_parameter to to
  unfolding SpellsTypeParameters
  no_type_item to = refl

  read_type_items-sound : (n : ℕ) (from : Cursor) (x : Parameters × Cursor)
      → read_type_items text r n from ≡ Some x
      → ReadsTypeItems from x
  unfolding read_type_items parameters_depth
  read_type_items-sound zero from x e = absurd (none-some x e)
  read_type_items-sound (suc n) from x e =
      elim (two_ways (stands RightBracket from) _ _ (Some x) e) [
        | inl c ↦ given (ReadsTypeItems from) (no_parameter, from) x c.1 (no_type_item from, omega arith)
        | inr c ↦ option_and_then_some _ (read_type_parameter text r from) x c.1 λ first first-read first-then.
            let h = read_type_parameter-sound from first first-read in
            elim (two_ways (stands Comma first.1) _ _ (Some x) first-then) [
              | inl d ↦ option_and_then_some _ _ x d.1 λ more more-read more-then.
                  let k = read_type_items-sound n (behind first.1) more more-read in
                  let comma = stands-sound Comma first.1 d.0 in
                  let rest = type_items_rest text more.0 first.1 (behind first.1) more.1 comma k.0 in
                  given (ReadsTypeItems from) _ x more-then (h.spelled more.0 more.1 rest, h.shallow more.0 k.1)
              | inr d ↦ given (ReadsTypeItems from) _ x d.1
                  (h.spelled no_parameter first.1 (last_type_item first.1), h.shallow no_parameter (omega arith))
            ]
      ]

  abbrev pub ReadsTypeParameters : Cursor → Parameters × Cursor → Type 0
  ReadsTypeParameters from x =
      (end_constrained x.0 ≡ true) × in_brackets (SpellsTypeParameters text true x.0) from x.1
      × (parameters_depth x.0 ≤ below)

  pub read_type_parameters-sound : (from : Cursor) (x : Parameters × Cursor)
      → read_type_parameters text r from ≡ Some x
      → ReadsTypeParameters from x
  unfolding read_type_parameters
  read_type_parameters-sound from x e =
      option_and_then_some _ (take LeftBracket from) x e λ inner inner-read inner-then.
      option_and_then_some _ (read_type_items text r (steps inner) inner) x inner-then λ ps ps-read ps-then.
      option_and_then_some _ (take RightBracket ps.1) x ps-then λ end end-read end-then.
      let h = read_type_items-sound (steps inner) inner ps ps-read in
      let k = only_where_some (end_constrained ps.0) (Some (ps.0, end)) x end-then in
      let left = take-sound LeftBracket from inner inner-read in
      let right = take-sound RightBracket ps.1 end end-read in
      given (ReadsTypeParameters from) (ps.0, end) x k.1 (k.0, (_, left, (_, h.0, right)), h.1)
