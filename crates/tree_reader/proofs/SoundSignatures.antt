-- The lists of parameters and the signatures that the reader reads are spelled by their tokens, name their items as
-- they are to, and are no deeper than their parts may be.
use Rattle.std.proofs.Common.{◌≡◌, ℕ, zero, suc, ◌≤◌, Bool, true, false, ◌&&◌, ◌||◌, not, inl, inr, refl, sym, ◌∙◌, ap, subst, List, arith}
use Rattle.std.specs.Prelude.{Option, Some, None}
use Rattle.std.proofs.lemmas.Option.{none-some, option_and_then_some}
use Rattle.std.proofs.lemmas.Bool.{true≢false, and_parts}
use Rattle.lexer.specs.Spelling.{same_kind}
use Rattle.lexer.specs.declared.token.TokenKind.{TokenKind}
use Rattle.lexer.specs.declared.token.TokenKind.TheVariants.{Identifier as identifier_kind, Ellipsis, LeftParenthesis, RightParenthesis, Comma}
use Rattle.tree.specs.Syntax.{Identifier, Expression, expression_node, name_expression, parenthesized, Signature, Parameters, no_parameter, named_and, unnamed_and, name_alone_and}
use Rattle.tree.specs.Depth.{expression_depth, signature_depth, parameters_depth}
use Rattle.meaning.specs.Cursor.{GoText, Cursor, token, word, identifier, first_is, is_next}
use Rattle.meaning.specs.OperatorTokens.{can_begin_type}
use Rattle.meaning.specs.WellFormed.{is_name, is_parenthesized, has_named_item, IsItem, AreItems, FitTogether}
use Rattle.meaning.specs.Grammar.{as_type, in_parentheses, before_item, SpellsExpression, SpellsForm, SpellsSignature, SpellsResult, SpellsItems}
use Rattle.tree_reader.specs.Reading.{stands, behind, past, steps, read_identifier}
use Rattle.tree_reader.specs.Reader.{as_identifier, is_no_item, name_alone, with_names, settled, is_second, opens_index, item_of, Readers, read_indexed, read_item, read_items, read_parameters, read_signature}
use Rattle.tree_reader.specs.Claims.{AreSound}
use Rattle.tree_reader.proofs.Steps.{given, two_ways, only_where_some, stands-sound, take-sound, past-sound, read_identifier-sound}
use Rattle.tree_reader.proofs.SoundIndexes.{second_is}
use Rattle.tree_reader.proofs.SoundInstances.{IsIndexed, read_indexed-sound}

module _ (text : GoText) where
  -- the first items of a list stand behind a comma as well
  items_rest : (ps : Parameters) (from inner to : Cursor)
      → token Comma from inner
      → SpellsItems text true ps inner to
      → SpellsItems text false ps from to
  unfolding SpellsItems
  items_rest no_parameter from inner to comma h = inr (subst (token Comma from) h comma)
  items_rest (named_and n ellipsis t ps) from inner to comma (start, h, more) =
      (start, subst (token Comma from) h comma, more)
  items_rest (unnamed_and ellipsis t ps) from inner to comma (start, h, more) =
      (start, subst (token Comma from) h comma, more)
  items_rest (name_alone_and n ps) from inner to comma (start, h, more) =
      (start, subst (token Comma from) h comma, more)

  -- a type that is one name is spelled as that name
  named_type : (t : Expression) (n : Identifier) (from to : Cursor)
      → as_identifier t ≡ Some n
      → SpellsExpression text as_type t from to
      → identifier text n from to
  unfolding SpellsExpression SpellsForm
  named_type (expression_node (name_expression name) span) n from to e ((end, h, (after, (stays, dot), (stay, none))), start_is, end_is) =
      let spelled = subst (λ (c : Cursor). word text name from c) (stays ∙ stay) h in
      given (λ (n : Identifier). identifier text n from to) _ n e (spelled, start_is, end_is)
  named_type (expression_node _ span) n from to e h = absurd (none-some n e)

-- a type that is no name
no_identifier : (t : Expression) → as_identifier t ≡ None → is_name t ≡ false
no_identifier (expression_node (name_expression name) span) e = cc
no_identifier (expression_node _ span) e = refl

some_item : (ps : Parameters) → not (is_no_item ps) ≡ true → IsItem ps
some_item no_parameter e = cc
some_item _ e = tt

-- before the items of a list are known to be named or not, none is a name alone
unnamed_item : (ellipsis : Bool) (t : Expression) (ps : Parameters)
    → AreItems false ps
    → AreItems false (unnamed_and ellipsis t ps)
unnamed_item true t ps h = h
unnamed_item false t ps h = (refl, h)

module _ (text : GoText) (r : Readers) (below : ℕ) where
  -- what stays true where items get their names
  abbrev IsNamed : Bool → Cursor → Cursor → Parameters → Parameters → Type 0
  IsNamed first from to ps named =
      SpellsItems text first named from to × AreItems true named × (parameters_depth named ≤ below)
      × (has_named_item named ≡ has_named_item ps)

  name_alone-sound : (first : Bool) (t : Expression) (ps more named : Parameters) (o : Option Identifier)
      → (from start inner to : Cursor)
      → before_item first from start
      → SpellsExpression text as_type t start inner
      → as_identifier t ≡ o
      → expression_depth t ≤ below
      → IsNamed false inner to ps more
      → name_alone o t more ≡ Some named
      → IsNamed first from to (unnamed_and false t ps) named
  unfolding SpellsItems parameters_depth
  name_alone-sound first t ps more named None from start inner to b h o d m e =
      let a = m.2 in
      given (IsNamed first from to (unnamed_and false t ps)) _ named e
      ((start, b, (start, refl, (inner, h, m.0))), (no_identifier t o, m.1), omega arith, m.3)
  name_alone-sound first t ps more named (Some n) from start inner to b h o d m e =
      let k = only_where_some _ _ named e in
      given (IsNamed first from to (unnamed_and false t ps)) (name_alone_and n more) named k.1
      ((start, b, (inner, named_type text t n start inner o h, m.0)), (refl, some_item more k.0, m.1), m.2, m.3)

  with_names-sound : (first : Bool) (ps named : Parameters) (from to : Cursor)
      → with_names ps ≡ Some named
      → SpellsItems text first ps from to
      → parameters_depth ps ≤ below
      → IsNamed first from to ps named
  unfolding SpellsItems parameters_depth
  with_names-sound first no_parameter named from to e h d =
      given (IsNamed first from to no_parameter) no_parameter named e (h, tt, omega arith, refl)
  with_names-sound first (named_and n ellipsis t ps) named from to e
      (start, b, (at, n_is, (inner, dots, (after, t_is, more)))) d =
      option_and_then_some _ _ named e λ others others-read others-then.
      let m = with_names-sound false ps others after to others-read more (omega arith) in
      let a = m.2 in
      given (IsNamed first from to (named_and n ellipsis t ps)) _ named others-then
      ((start, b, (at, n_is, (inner, dots, (after, t_is, m.0)))), m.1, omega arith, refl)
  with_names-sound first (unnamed_and true t ps) named from to e (start, b, (inner, dots, (after, t_is, more))) d =
      option_and_then_some _ _ named e λ others others-read others-then.
      let m = with_names-sound false ps others after to others-read more (omega arith) in
      let a = m.2 in
      given (IsNamed first from to (unnamed_and true t ps)) _ named others-then
      ((start, b, (inner, dots, (after, t_is, m.0))), m.1, omega arith, m.3)
  with_names-sound first (unnamed_and false t ps) named from to e (start, b, (inner, dots, (after, t_is, more))) d =
      option_and_then_some _ _ named e λ others others-read others-then.
      let m = with_names-sound false ps others after to others-read more (omega arith) in
      let comma = subst (before_item first from) dots b in
      name_alone-sound first t ps others named (as_identifier t) from inner after to comma t_is refl (omega arith) m
      others-then
  with_names-sound first (name_alone_and n ps) named from to e h d = absurd (none-some named e)

  abbrev IsSettled : Cursor → Cursor → Parameters → Type 0
  IsSettled from to ps = SpellsItems text true ps from to × FitTogether ps × (parameters_depth ps ≤ below)

  settled-sound : (ps named : Parameters) (from to : Cursor)
      → settled ps ≡ Some named
      → SpellsItems text true ps from to
      → AreItems false ps
      → parameters_depth ps ≤ below
      → IsSettled from to named
  settled-sound ps named from to e h items d =
      elim (two_ways (has_named_item ps) _ _ (Some named) e) [
        | inl c ↦ (let m = with_names-sound true ps named from to c.1 h d in
            (m.0, subst (λ (b : Bool). AreItems b named) (sym (m.3 ∙ c.0)) m.1, m.2))
        | inr c ↦ given (IsSettled from to) ps named c.1
            (h, subst (λ (b : Bool). AreItems b ps) (sym c.0) items, d)
      ]

-- a type that begins with no bracket stands in none
not_parenthesized : (text : GoText) (t : Expression) (from to : Cursor)
    → SpellsExpression text as_type t from to
    → stands LeftParenthesis from ≡ false
    → is_parenthesized t ≡ false
unfolding SpellsExpression SpellsForm stands same_kind
not_parenthesized text (expression_node (parenthesized e) span) from to (h, starts, ends) f =
    absurd (true≢false (sym (ap (first_is (λ (k : TokenKind). same_kind k LeftParenthesis)) h.1.taken) ∙ f))
not_parenthesized text (expression_node _ span) from to h f = refl

module _ (text : GoText) (r : Readers) (below : ℕ) (sound : AreSound text below r) where
  -- an item is one where it is before other items
  record ReadsItem (from : Cursor) (x : (Parameters → Parameters) × Cursor) : Type 0 where
    spelled : (ps : Parameters) (to : Cursor)
        → SpellsItems text false ps x.1 to
        → SpellsItems text true (x.0 ps) from to
    formed : (ps : Parameters) → AreItems false ps → AreItems false (x.0 ps)
    shallow : (ps : Parameters) → parameters_depth ps ≤ below → parameters_depth (x.0 ps) ≤ below

  item_of-sound : (n : Option Identifier) (t : Expression) (from to : Cursor)
      → IsIndexed text n t from to × (expression_depth t ≤ below)
      → ReadsItem from (item_of n t, to)
  unfolding SpellsItems parameters_depth
  item_of-sound None t from to (h, d) = record {
    spelled = λ ps end more. (from, refl, (from, refl, (to, h.0, more)));
    formed = λ ps items. unnamed_item false t ps items;
    shallow = λ ps deep. omega arith;
  }
  item_of-sound (Some n) t from to (h, d) = record {
    spelled = λ ps end more. (from, refl, (h.0, h.1, (h.0, refl, (to, h.2, more))));
    formed = λ ps items. items;
    shallow = λ ps deep. omega arith;
  }

  read_item-sound : (from : Cursor) (x : (Parameters → Parameters) × Cursor)
      → read_item text r from ≡ Some x
      → ReadsItem from x
  unfolding read_item SpellsItems parameters_depth
  read_item-sound from x e =
      let indexes = stands identifier_kind from && opens_index (behind from) in
      let goes_on = stands Ellipsis (behind from) || is_next can_begin_type (behind from) in
      elim (two_ways (is_second text.edition && indexes) _ _ (Some x) e) [
        | inl b ↦ (let second = and_parts (is_second text.edition) indexes b.0 in
            let places = and_parts (stands identifier_kind from) (opens_index (behind from)) second.1 in
            option_and_then_some _ (read_indexed text r from) x b.1 λ t t-read t-then.
            let h = read_indexed-sound text r below sound from t (second_is text.edition second.0) places.0 places.1 t-read in
            given (ReadsItem from) _ x t-then (item_of-sound t.0.0 t.0.1 from t.1 h))
        | inr b ↦ elim (two_ways (stands identifier_kind from && goes_on) _ _ (Some x) b.1) [
          | inl c ↦ option_and_then_some _ (read_identifier text from) x c.1 λ n n-read n-then.
              option_and_then_some _ (r.read_type (past Ellipsis n.1)) x n-then λ t t-read t-then.
              let h = sound.type (past Ellipsis n.1) t.1 t.0 t-read in
              let name = read_identifier-sound text from n n-read in
              let dots = past-sound Ellipsis n.1 in
              let a = h.1 in
              given (ReadsItem from) _ x t-then record {
                spelled = λ ps to more. (from, refl, (_, name, (_, dots, (_, h.0, more))));
                formed = λ ps items. items;
                shallow = λ ps d. omega arith;
              }
          | inr c ↦ option_and_then_some _ (r.read_type (past Ellipsis from)) x c.1 λ t t-read t-then.
              let h = sound.type (past Ellipsis from) t.1 t.0 t-read in
              let a = h.1 in
              given (ReadsItem from) _ x t-then record {
                spelled = λ ps to more. (from, refl, (_, past-sound Ellipsis from, (_, h.0, more)));
                formed = λ ps items. unnamed_item (stands Ellipsis from) t.0 ps items;
                shallow = λ ps d. omega arith;
              }
        ]
      ]

  abbrev ReadsItems : Cursor → Parameters × Cursor → Type 0
  ReadsItems from x = SpellsItems text true x.0 from x.1 × AreItems false x.0 × (parameters_depth x.0 ≤ below)

  last_item : (to : Cursor) → SpellsItems text false no_parameter to to
  unfolding SpellsItems
  last_item to = inl refl

  no_item : (to : Cursor) → SpellsItems text true no_parameter to to
  unfolding SpellsItems
  no_item to = refl

  read_items-sound : (n : ℕ) (from : Cursor) (x : Parameters × Cursor)
      → read_items text r n from ≡ Some x
      → ReadsItems from x
  unfolding read_items parameters_depth
  read_items-sound zero from x e = absurd (none-some x e)
  read_items-sound (suc n) from x e =
      elim (two_ways (stands RightParenthesis from) _ _ (Some x) e) [
        | inl c ↦ given (ReadsItems from) _ x c.1 (no_item from, tt, omega arith)
        | inr c ↦ option_and_then_some _ _ x c.1 λ first first-read first-then.
            let h = read_item-sound from first first-read in
            elim (two_ways (stands Comma first.1) _ _ (Some x) first-then) [
              | inl d ↦ option_and_then_some _ _ x d.1 λ more more-read more-then.
                  let k = read_items-sound n (behind first.1) more more-read in
                  let comma = stands-sound Comma first.1 d.0 in
                  let rest = items_rest text more.0 first.1 (behind first.1) more.1 comma k.0 in
                  given (ReadsItems from) _ x more-then
                  (h.spelled more.0 more.1 rest, h.formed more.0 k.1, h.shallow more.0 k.2)
              | inr d ↦ let none = h.spelled no_parameter first.1 (last_item first.1) in
                  given (ReadsItems from) _ x d.1 (none, h.formed no_parameter tt, h.shallow no_parameter (omega arith))
            ]
      ]

  abbrev pub ReadsParameters : Cursor → Parameters × Cursor → Type 0
  ReadsParameters from x =
      FitTogether x.0 × in_parentheses (SpellsItems text true x.0) from x.1 × (parameters_depth x.0 ≤ below)

  pub read_parameters-sound : (from : Cursor) (x : Parameters × Cursor)
      → read_parameters text r from ≡ Some x
      → ReadsParameters from x
  unfolding read_parameters
  read_parameters-sound from x e =
      option_and_then_some _ _ x e λ inner inner-read inner-then.
      option_and_then_some _ _ x inner-then λ ps ps-read ps-then.
      option_and_then_some _ _ x ps-then λ end end-read end-then.
      option_and_then_some _ _ x end-then λ named named-read named-then.
      let h = read_items-sound (steps inner) inner ps ps-read in
      let k = settled-sound text r below ps.0 named inner ps.1 named-read h.0 h.1 h.2 in
      let left = take-sound LeftParenthesis from inner inner-read in
      let right = take-sound RightParenthesis ps.1 end end-read in
      given (ReadsParameters from) _ x named-then
      (k.1, (_, left, (_, k.0, right)), k.2)

  abbrev pub ReadsSignature : Cursor → Signature × Cursor → Type 0
  ReadsSignature from x = SpellsSignature text x.0 from x.1 × (signature_depth x.0 ≤ below)

  pub read_signature-sound : (from : Cursor) (x : Signature × Cursor)
      → read_signature text r from ≡ Some x
      → ReadsSignature from x
  unfolding read_signature SpellsSignature SpellsResult signature_depth parameters_depth
  read_signature-sound from x e =
      option_and_then_some _ _ x e λ ps ps-read ps-then.
      let h = read_parameters-sound from ps ps-read in
      let a = h.2 in
      elim (two_ways (stands LeftParenthesis ps.1) _ _ (Some x) ps-then) [
        | inl c ↦ option_and_then_some _ _ x c.1 λ rs rs-read rs-then.
            let k = read_parameters-sound ps.1 rs rs-read in
            let b = k.2 in
            given (ReadsSignature from) _ x rs-then ((h.0, (ps.1, h.1, (k.0, k.1))), omega arith)
        | inr c ↦ elim (two_ways (is_next can_begin_type ps.1) _ _ (Some x) c.1) [
          | inl d ↦ option_and_then_some _ _ x d.1 λ t t-read t-then.
              let k = sound.type ps.1 t.1 t.0 t-read in
              let b = k.1 in
              given (ReadsSignature from) _ x t-then
              ((h.0, (ps.1, h.1, (refl, (refl, (not_parenthesized text t.0 ps.1 t.1 k.0 c.0, k.0))))), omega arith)
          | inr d ↦ given (ReadsSignature from) _ x d.1 ((h.0, (ps.1, h.1, (refl, d.0))), omega arith)
        ]
      ]
