-- The types that the reader reads are spelled by their tokens, and no deeper than they may be.
use Rattle.std.proofs.Common.{◌≡◌, ℕ, suc, ◌≤◌, max, Bool, true, false, true≢false, ◌&&◌, inl, inr, refl, sym, ◌∙◌, subst, List, [], ◌∷◌, arith}
use Rattle.std.specs.Prelude.{Some, nat_le}
use Rattle.std.proofs.lemmas.Option.{option_and_then_some}
use Rattle.std.proofs.lemmas.Bool.{and_parts, leb-true}
use Rattle.lexer.specs.Spelling.{same_kind}
use Rattle.lexer.specs.declared.token.Token.{Token}
use Rattle.lexer.specs.declared.token.TokenKind.{TokenKind}
use Rattle.lexer.specs.declared.token.TokenKind.TheVariants.{Identifier as identifier_kind, ChanKeyword, FuncKeyword, InterfaceKeyword, MapKeyword, StructKeyword, Star, Arrow, Ellipsis, LeftParenthesis, RightParenthesis, LeftBracket, RightBracket, LeftBrace, Dot}
use Rattle.tree.specs.declared.operator.ChanDirection.TheVariants.{Receive}
use Rattle.tree.specs.declared.edition.Edition.{Edition}
use Rattle.tree.specs.declared.edition.Edition.TheVariants.{First, Second}
use Rattle.tree.specs.Syntax.{Expression, expression_node, name_expression, selector_expression, parenthesized, star_expression, channel_type, function_type}
use Rattle.tree.specs.Depth.{expression_depth}
use Rattle.meaning.specs.Cursor.{GoText, Cursor, first_is, is_next}
use Rattle.meaning.specs.OperatorTokens.{is_dot, takes_arguments, is_arrow, is_left_brace}
use Rattle.meaning.specs.WellFormed.{IsPrimary, is_name, names_type, is_instance, is_type, takes_elements, is_type_name, has_bare_literal}
use Rattle.meaning.specs.Grammar.{Position, as_type, as_expression, end_of_type, of_struct, of_interface, SpellsExpression, SpellsForm}
use Rattle.tree_reader.specs.Reading.{stands, behind, take, spanned, word_between, read_identifier}
use Rattle.tree_reader.specs.Reader.{is_second, Readers, around, read_index, read_type_arguments, read_any, read_signature, read_braced_fields, read_bracket_type, read_map_type, read_channel_type, read_literal_type, read_selector, read_named_type, read_type_of}
use Rattle.tree_reader.specs.Claims.{AreSound}
use Rattle.tree_reader.proofs.Steps.{given, two_ways, only_where_some, stands-sound, take-sound, read_identifier-sound}
use Rattle.tree_reader.proofs.SoundIndexes.{second_is, read_index-sound}
use Rattle.tree_reader.proofs.SoundInstances.{instance_type-sound}
use Rattle.tree_reader.proofs.SoundSignatures.{read_signature-sound}
use Rattle.tree_reader.proofs.SoundFields.{read_braced_fields-sound}

-- a test of the next token that asks for one kind
stands_as : (kind : TokenKind) (test : TokenKind → Bool)
    → ((k : TokenKind) → same_kind k kind ≡ test k)
    → (place : Cursor)
    → stands kind place ≡ is_next test place
unfolding stands
stands_as kind test same place = by_list place.left where
  by_list : (left : List Token) → first_is (λ (k : TokenKind). same_kind k kind) left ≡ first_is test left
  by_list [] = refl
  by_list (t ∷ rest) = same t.kind

pub stands-dot : (place : Cursor) → stands Dot place ≡ is_next is_dot place
unfolding same_kind
stands-dot place = stands_as Dot is_dot same place where
  same : (k : TokenKind) → same_kind k Dot ≡ is_dot k
  same Dot = refl
  same _ = refl

pub stands-arrow : (place : Cursor) → stands Arrow place ≡ is_next is_arrow place
unfolding same_kind
stands-arrow place = stands_as Arrow is_arrow same place where
  same : (k : TokenKind) → same_kind k Arrow ≡ is_arrow k
  same Arrow = refl
  same _ = refl

pub stands-left_brace : (place : Cursor) → stands LeftBrace place ≡ is_next is_left_brace place
unfolding same_kind
stands-left_brace place = stands_as LeftBrace is_left_brace same place where
  same : (k : TokenKind) → same_kind k LeftBrace ≡ is_left_brace k
  same LeftBrace = refl
  same _ = refl

pub no_arguments : (edition : Edition) (place : Cursor)
    → (is_second edition && stands LeftBracket place) ≡ false
    → is_next (takes_arguments edition) place ≡ false
unfolding same_kind
no_arguments First place h = none place.left where
  none : (left : List Token) → first_is (takes_arguments First) left ≡ false
  none [] = refl
  none (t ∷ rest) = refl
no_arguments Second place h = sym (stands_as LeftBracket (takes_arguments Second) same place) ∙ h where
  same : (k : TokenKind) → same_kind k LeftBracket ≡ takes_arguments Second k
  same LeftBracket = refl
  same _ = refl

-- a name that was read as an expression is a type's, where nothing follows that continues it
pub names_type-sound : (text : GoText) (e : Expression) (from to : Cursor)
    → names_type e ≡ true
    → (is_name e ≡ true → stands Dot to ≡ false)
    → is_next (takes_arguments text.edition) to ≡ false
    → SpellsExpression text as_expression e from to
    → SpellsExpression text as_type e from to
unfolding SpellsExpression SpellsForm
names_type-sound text (expression_node (name_expression n) span) from to h dot none ((end, name, stays), starts, ends) =
    let no_dot = subst (λ (c : Cursor). is_next is_dot c ≡ false) (sym stays) (sym (stands-dot to) ∙ dot refl) in
    ((end, name, (to, (stays, no_dot), (refl, none))), starts, ends)
names_type-sound text (expression_node (selector_expression e n) span) from to h dot none
    ((selects, (at, operand, (behind_dot, point, (last, name, stays)))), starts, ends) =
    let no_more = subst (λ (c : Cursor). is_next (takes_arguments text.edition) c ≡ false) (sym stays) none in
    ((h, (at, operand, (behind_dot, point, (last, name, (stays, no_more))))), starts, ends)
names_type-sound text (expression_node _ span) from to h dot none spelled = cc

module _ (text : GoText) (r : Readers) (below : ℕ) (sound : AreSound text below r) where
  -- a type that begins with a bracket or a keyword, but for `func`: it can stand at each place where it ends
  pub record ReadsLiteralType (from : Cursor) (x : Expression × Cursor) : Type 0 where
    pub spelled : (place : Position) → end_of_type place x.1 x.1 → SpellsExpression text place x.0 from x.1
    pub takes : takes_elements x.0 ≡ true
    pub bare : is_type_name x.0 ≡ false
    pub plain : has_bare_literal x.0 ≡ false
    pub primary : IsPrimary x.0
    pub shallow : expression_depth x.0 ≤ suc below

  read_bracket_type-sound : (from : Cursor) (x : Expression × Cursor)
      → stands LeftBracket from ≡ true
      → read_bracket_type text r from ≡ Some x
      → ReadsLiteralType from x
  unfolding read_bracket_type SpellsExpression SpellsForm expression_depth has_bare_literal
  read_bracket_type-sound from x bracket e =
      let inner = behind from in
      let left = stands-sound LeftBracket from bracket in
      elim (two_ways (stands RightBracket inner) _ _ (Some x) e) [
        | inl c ↦ option_and_then_some _ (r.read_type (behind inner)) x c.1 λ t t-read t-then.
            let h = sound.type (behind inner) t.1 t.0 t-read in
            let close = stands-sound RightBracket inner c.0 in
            let a = h.1 in
            given (ReadsLiteralType from) _ x t-then record {
              spelled = λ place end. ((_, (_, left, (_, refl, close)), (_, h.0, end)), refl, refl);
              takes = refl;
              bare = refl;
              plain = refl;
              primary = refl;
              shallow = omega arith;
            }
        | inr c ↦ elim (two_ways (stands Ellipsis inner) _ _ (Some x) c.1) [
          | inl d ↦ option_and_then_some _ (take RightBracket (behind inner)) x d.1 λ right right-read right-then.
              option_and_then_some _ (r.read_type right) x right-then λ t t-read t-then.
              let h = sound.type right t.1 t.0 t-read in
              let dots = stands-sound Ellipsis inner d.0 in
              let close = take-sound RightBracket (behind inner) right right-read in
              let a = h.1 in
              given (ReadsLiteralType from) _ x t-then record {
                spelled = λ place end. ((_, (_, left, (_, dots, close)), (_, h.0, end)), refl, refl);
                takes = refl;
                bare = refl;
                plain = refl;
                primary = refl;
                shallow = omega arith;
              }
          | inr d ↦ option_and_then_some _ (read_any text r inner) x d.1 λ n n-read n-then.
              option_and_then_some _ (take RightBracket n.1) x n-then λ right right-read right-then.
              option_and_then_some _ (r.read_type right) x right-then λ t t-read t-then.
              let m = sound.expression false 1 inner n.1 n.0 n-read in
              let close = take-sound RightBracket n.1 right right-read in
              let h = sound.type right t.1 t.0 t-read in
              let a = h.1 in
              let b = m.3 in
              given (ReadsLiteralType from) _ x t-then record {
                spelled = λ place end. ((_, (_, left, (_, m.0, close)), (_, h.0, end)), refl, refl);
                takes = refl;
                bare = refl;
                plain = refl;
                primary = refl;
                shallow = omega arith;
              }
        ]
      ]

  read_map_type-sound : (from : Cursor) (x : Expression × Cursor)
      → stands MapKeyword from ≡ true
      → read_map_type text r from ≡ Some x
      → ReadsLiteralType from x
  unfolding read_map_type SpellsExpression SpellsForm expression_depth has_bare_literal
  read_map_type-sound from x word e =
      option_and_then_some _ (take LeftBracket (behind from)) x e λ inner inner-read inner-then.
      option_and_then_some _ (r.read_type inner) x inner-then λ k k-read k-then.
      option_and_then_some _ (take RightBracket k.1) x k-then λ right right-read right-then.
      option_and_then_some _ (r.read_type right) x right-then λ t t-read t-then.
      let map = stands-sound MapKeyword from word in
      let left = take-sound LeftBracket (behind from) inner inner-read in
      let close = take-sound RightBracket k.1 right right-read in
      let m = sound.type inner k.1 k.0 k-read in
      let h = sound.type right t.1 t.0 t-read in
      let a = h.1 in
      let b = m.1 in
      given (ReadsLiteralType from) _ x t-then record {
        spelled = λ place end. ((_, map, (_, (_, left, (_, m.0, close)), (_, h.0, end))), refl, refl);
        takes = refl;
        bare = refl;
        plain = refl;
        primary = refl;
        shallow = omega arith;
      }

  read_channel_type-sound : (from : Cursor) (x : Expression × Cursor)
      → stands ChanKeyword from ≡ true
      → read_channel_type text r from ≡ Some x
      → ReadsLiteralType from x
  unfolding read_channel_type SpellsExpression SpellsForm expression_depth has_bare_literal
  read_channel_type-sound from x chan e =
      let inner = behind from in
      let word = stands-sound ChanKeyword from chan in
      elim (two_ways (stands Arrow inner) _ _ (Some x) e) [
        | inl c ↦ option_and_then_some _ (r.read_type (behind inner)) x c.1 λ t t-read t-then.
            let h = sound.type (behind inner) t.1 t.0 t-read in
            let a = h.1 in
            given (ReadsLiteralType from) _ x t-then record {
              spelled = λ place end. ((_, (_, word, stands-sound Arrow inner c.0), (_, h.0, end)), refl, refl);
              takes = refl;
              bare = refl;
              plain = refl;
              primary = refl;
              shallow = omega arith;
            }
        | inr c ↦ option_and_then_some _ (r.read_type inner) x c.1 λ t t-read t-then.
            let h = sound.type inner t.1 t.0 t-read in
            let no_arrow = sym (stands-arrow inner) ∙ c.0 in
            let a = h.1 in
            given (ReadsLiteralType from) _ x t-then record {
              spelled = λ place end. ((_, (_, word, (refl, no_arrow)), (_, h.0, end)), refl, refl);
              takes = refl;
              bare = refl;
              plain = refl;
              primary = refl;
              shallow = omega arith;
            }
      ]

  pub read_literal_type-sound : (from : Cursor) (x : Expression × Cursor)
      → read_literal_type text r from ≡ Some x
      → ReadsLiteralType from x
  unfolding read_literal_type SpellsExpression SpellsForm expression_depth has_bare_literal
  read_literal_type-sound from x e =
      elim (two_ways (stands LeftBracket from) _ _ (Some x) e) [
        | inl c ↦ read_bracket_type-sound from x c.0 c.1
        | inr c ↦ elim (two_ways (stands MapKeyword from) _ _ (Some x) c.1) [
          | inl c ↦ read_map_type-sound from x c.0 c.1
          | inr c ↦ elim (two_ways (stands ChanKeyword from) _ _ (Some x) c.1) [
            | inl c ↦ read_channel_type-sound from x c.0 c.1
            | inr c ↦ elim (two_ways (stands StructKeyword from) _ _ (Some x) c.1) [
              | inl c ↦ let inner = behind from in
                  option_and_then_some _ (read_braced_fields text r of_struct inner) x c.1 λ fs fs-read fs-then.
                  let h = read_braced_fields-sound text r below sound of_struct inner fs fs-read in
                  let a = h.1 in
                  given (ReadsLiteralType from) _ x fs-then record {
                    spelled = λ place end. ((_, stands-sound StructKeyword from c.0, (_, h.0, end)), refl, refl);
                    takes = refl;
                    bare = refl;
                    plain = refl;
                    primary = refl;
                    shallow = omega arith;
                  }
              | inr c ↦ option_and_then_some _ (take InterfaceKeyword from) x c.1 λ word word-read word-then.
                  option_and_then_some _ (read_braced_fields text r of_interface word) x word-then λ fs fs-read fs-then.
                  let h = read_braced_fields-sound text r below sound of_interface word fs fs-read in
                  let interface = take-sound InterfaceKeyword from word word-read in
                  let a = h.1 in
                  given (ReadsLiteralType from) _ x fs-then record {
                    spelled = λ place end. ((_, interface, (_, h.0, end)), refl, refl);
                    takes = refl;
                    bare = refl;
                    plain = refl;
                    primary = refl;
                    shallow = omega arith;
                  }
            ]
          ]
        ]
      ]

  -- what stands in brackets or behind a word
  abbrev pub ReadsType : Cursor → Expression × Cursor → Type 0
  ReadsType from x = SpellsExpression text as_type x.0 from x.1 × (expression_depth x.0 ≤ suc below)

  abbrev named : Cursor → Expression
  named from = (spanned from (name_expression (word_between text from (behind from))) (behind from)).0

  -- a selector of a name is a type's name, and no name alone
  read_selector-names : (from at : Cursor) (x : Expression × Cursor)
      → read_selector text r below from (named from) at ≡ Some x
      → (names_type x.0 ≡ true) × (is_name x.0 ≡ false)
  unfolding read_selector
  read_selector-names from at x read =
      option_and_then_some _ (read_identifier text (behind at)) x read λ n n-read n-then.
      given (λ (x : Expression × Cursor). (names_type x.0 ≡ true) × (is_name x.0 ≡ false)) _ x n-then (refl, refl)

  -- what grows around an operand
  pub record Grows (place : Position) (from : Cursor) (e : Expression) (x : Expression × Cursor) : Type 0 where
    pub spelled : SpellsExpression text place x.0 from x.1
    pub same : has_bare_literal x.0 ≡ has_bare_literal e
    pub primary : IsPrimary x.0
    pub shallow : expression_depth x.0 ≤ suc below

  pub read_selector-sound : (from at : Cursor) (e : Expression) (x : Expression × Cursor)
      → IsPrimary e
      → SpellsExpression text as_expression e from at
      → stands Dot at ≡ true
      → expression_depth e ≤ below
      → read_selector text r below from e at ≡ Some x
      → Grows as_expression from e x
  unfolding read_selector SpellsExpression SpellsForm expression_depth has_bare_literal
  read_selector-sound from at e x primary spelled dot d read =
      option_and_then_some _ (read_identifier text (behind at)) x read λ n n-read n-then.
      let h = read_identifier-sound text (behind at) n n-read in
      given (Grows as_expression from e) _ x n-then record {
        spelled = ((primary, (at, spelled, (_, stands-sound Dot at dot, (_, h, refl)))), refl, refl);
        same = refl;
        primary = refl;
        shallow = omega arith;
      }

  -- a name among expressions
  pub name-sound : (from : Cursor)
      → stands identifier_kind from ≡ true
      → SpellsExpression text as_expression (named from) from (behind from)
  unfolding SpellsExpression SpellsForm
  name-sound from e = ((_, (stands-sound identifier_kind from e, refl), refl), refl, refl)

  name_shallow : (from : Cursor) → expression_depth (named from) ≤ suc below
  unfolding expression_depth
  name_shallow from = omega arith

  -- a type's name that was read as an expression, with the brackets that follow it
  read_type_arguments-sound : (from at : Cursor) (e : Expression) (x : Expression × Cursor)
      → names_type e ≡ true
      → (is_name e ≡ true → stands Dot at ≡ false)
      → IsPrimary e
      → SpellsExpression text as_expression e from at
      → expression_depth e ≤ suc below
      → read_type_arguments text r below from e at ≡ Some x
      → ReadsType from x
  unfolding read_type_arguments
  read_type_arguments-sound from at e x named_so no_dot primary spelled d read =
      elim (two_ways (is_second text.edition && stands LeftBracket at) _ _ (Some x) read) [
        | inl c ↦ (let tests = and_parts (is_second text.edition) (stands LeftBracket at) c.0 in
            option_and_then_some _ (around text r below e (read_index text r from e at)) x c.1 λ t t-read t-then.
            let fits = only_where_some (nat_le (expression_depth e) below) (read_index text r from e at) t t-read in
            let shallow = leb-true (expression_depth e) below fits.0 in
            let h = read_index-sound text r below sound from at e primary spelled t tests.1 fits.1 in
            let k = only_where_some (is_instance t.0 && is_type t.0) (Some t) x t-then in
            let types = and_parts (is_instance t.0) (is_type t.0) k.0 in
            let deep = h.shallow in
            let second = second_is text.edition tests.0 in
            given (ReadsType from) t x k.1
            (instance_type-sound text t.0 from t.1 second types.0 types.1 h.spelled, omega arith))
        | inr c ↦ given (ReadsType from) (e, at) x c.1
            (names_type-sound text e from at named_so no_dot (no_arguments text.edition at c.0) spelled, d)
      ]

  read_named_type-sound : (from : Cursor) (x : Expression × Cursor)
      → stands identifier_kind from ≡ true
      → read_named_type text r below from ≡ Some x
      → ReadsType from x
  unfolding read_named_type
  read_named_type-sound from x name e =
      elim (two_ways (stands Dot (behind from)) _ _ (Some x) e) [
        | inl c ↦ (let at = behind from in
            option_and_then_some _ (around text r below (named from) (read_selector text r below from (named from) at)) x
            c.1 λ t t-read t-then.
            let k = only_where_some (nat_le (expression_depth (named from)) below) (read_selector text r below from (named from) at) t t-read in
            let fits = leb-true _ below k.0 in
            let h = read_selector-sound from at (named from) t refl (name-sound from name) c.0 fits k.1 in
            let is = read_selector-names from at t k.1 in
            read_type_arguments-sound from t.1 t.0 x is.0 (λ alone. absurd (true≢false (sym alone ∙ is.1))) h.primary
            h.spelled h.shallow t-then)
        | inr c ↦ read_type_arguments-sound from (behind from) (named from) x refl (λ alone. c.0) refl
            (name-sound from name) (name_shallow from) c.1
      ]

  pub read_type_of-sound : (from : Cursor) (x : Expression × Cursor)
      → read_type_of text r below from ≡ Some x
      → ReadsType from x
  unfolding read_type_of SpellsExpression SpellsForm expression_depth
  read_type_of-sound from x e =
      elim (two_ways (stands identifier_kind from) _ _ (Some x) e) [
        | inl c ↦ read_named_type-sound from x c.0 c.1
        | inr c ↦ elim (two_ways (stands Star from) _ _ (Some x) c.1) [
          | inl c ↦ option_and_then_some _ (r.read_type (behind from)) x c.1 λ t t-read t-then.
              let h = sound.type (behind from) t.1 t.0 t-read in
              let a = h.1 in
              given (ReadsType from) (spanned from (star_expression t.0) t.1) x t-then
              (((tt, (_, stands-sound Star from c.0, h.0)), refl, refl), omega arith)
          | inr c ↦ elim (two_ways (stands LeftParenthesis from) _ _ (Some x) c.1) [
            | inl c ↦ option_and_then_some _ (r.read_type (behind from)) x c.1 λ t t-read t-then.
                option_and_then_some _ (take RightParenthesis t.1) x t-then λ end end-read end-then.
                let h = sound.type (behind from) t.1 t.0 t-read in
                let a = h.1 in
                let left = stands-sound LeftParenthesis from c.0 in
                let close = take-sound RightParenthesis t.1 end end-read in
                given (ReadsType from) (spanned from (parenthesized t.0) end) x end-then
                (((_, left, (_, h.0, close)), refl, refl), omega arith)
            | inr c ↦ elim (two_ways (stands Arrow from) _ _ (Some x) c.1) [
              | inl c ↦ option_and_then_some _ (take ChanKeyword (behind from)) x c.1 λ word word-read word-then.
                  option_and_then_some _ (r.read_type word) x word-then λ t t-read t-then.
                  let h = sound.type word t.1 t.0 t-read in
                  let a = h.1 in
                  let arrow = stands-sound Arrow from c.0 in
                  let chan = take-sound ChanKeyword (behind from) word word-read in
                  given (ReadsType from) (spanned from (channel_type Receive t.0) t.1) x t-then
                  (((_, (_, arrow, chan), (_, h.0, refl)), refl, refl), omega arith)
              | inr c ↦ elim (two_ways (stands FuncKeyword from) _ _ (Some x) c.1) [
                | inl c ↦ option_and_then_some _ (read_signature text r (behind from)) x c.1 λ s s-read s-then.
                    let h = read_signature-sound text r below sound (behind from) s s-read in
                    let a = h.1 in
                    given (ReadsType from) (spanned from (function_type s.0) s.1) x s-then
                    (((_, stands-sound FuncKeyword from c.0, (_, h.0, refl)), refl, refl), omega arith)
                | inr c ↦ (let h = read_literal_type-sound from x c.1 in (h.spelled as_type refl, h.shallow))
              ]
            ]
          ]
        ]
      ]
