-- The statements that are read are spelled, kept and no deeper than they may be, and where the word `if` stands it is
-- one that can stand after `else`.
use Rattle.std.proofs.Common.{◌≡◌, ℕ, suc, ◌≤◌, true, false, List, [], ◌∷◌, inl, inr, refl, ap, sym, subst, ◌∙◌, true≢false, arith}
use Rattle.std.specs.Prelude.{Option, Some, None, nat_le, ◌&&◌}
use Rattle.std.proofs.lemmas.Option.{option_and_then_some, none-some, same_Some}
use Rattle.std.proofs.lemmas.Bool.{leb-true, and_parts, cases_Bool}
use Rattle.lexer.specs.declared.token.Token.{Token}
use Rattle.lexer.specs.declared.token.TokenKind.{TokenKind}
use Rattle.lexer.specs.declared.token.TokenKind.TheVariants.{Identifier as identifier_kind, BreakKeyword, ContinueKeyword, DeferKeyword, FallthroughKeyword, ForKeyword, GoKeyword, GotoKeyword, IfKeyword, ReturnKeyword, SelectKeyword, SwitchKeyword, LeftBrace, Colon}
use Rattle.tree.specs.Syntax.{Identifier, Expression, Expressions, no_expression, expression_and, Statement, StatementForm, declaration_statement, labeled_statement, go_statement, defer_statement, return_statement, break_statement, continue_statement, goto_statement, fallthrough_statement, block_statement}
use Rattle.tree.specs.Depth.{expression_depth, expressions_depth, statement_depth, below_statement}
use Rattle.meaning.specs.Cursor.{GoText, Cursor, is_next, optional_identifier}
use Rattle.meaning.specs.WellFormed.{primary_level, is_call, IsElse, IsKept}
use Rattle.meaning.specs.Grammar.{as_expression, IsSecond, perhaps, form_of, SpellsExpression, SpellsExpressions, SpellsStatement, SpellsStatementForm}
use Rattle.tree_reader.specs.Reading.{stands, behind, take, read_identifier, read_optional_identifier}
use Rattle.tree_reader.specs.Reader.{is_second, Readers, of_first, of_next, is_end, declaration_keyword, read_expressions, read_block, read_declaration, read_after_label, read_labeled, read_started, read_return, read_branch, read_goto, read_block_statement, read_other_statement, read_statement_of}
use Rattle.tree_reader.specs.Claims.{AreSound}
use Rattle.tree_reader.proofs.Steps.{given, two_ways, only_where_some, option_ways, stands-sound, read_identifier-sound, read_optional_identifier-sound}
use Rattle.tree_reader.proofs.SoundLists.{read_expressions-sound}
use Rattle.tree_reader.proofs.SoundIndexes.{second_is}
use Rattle.tree_reader.proofs.SoundBlocks.{read_block-sound}
use Rattle.tree_reader.proofs.SoundDeclarations.{read_declaration-sound}
use Rattle.tree_reader.proofs.SoundStatementsSimple.{IsReadStatement, node-read, read_simple-sound}
use Rattle.tree_reader.proofs.SoundStatementsHeaders.{read_if-sound}
use Rattle.tree_reader.proofs.SoundStatementsLoops.{read_for-sound}
use Rattle.tree_reader.proofs.SoundStatementsSwitches.{read_switch-sound, read_select-sound}

-- Only one kind of token stands at a place.
kind_or : TokenKind → List Token → TokenKind
kind_or kind [] = kind
kind_or kind (t ∷ rest) = t.kind

stands-one : (a b : TokenKind) (place : Cursor) → stands a place ≡ true → stands b place ≡ true → a ≡ b
unfolding kind_or
stands-one a b place s t = ap (λ l. kind_or a l) (sym (stands-sound a place s).taken ∙ (stands-sound b place t).taken)

no-declaration : (place : Cursor) → stands IfKeyword place ≡ true → of_next declaration_keyword place ≡ None
no-declaration place s = ap (λ l. of_first declaration_keyword l) (stands-sound IfKeyword place s).taken

-- the place behind a name is the place behind one token
identifier-behind : (text : GoText) (place : Cursor) (x : Identifier × Cursor)
    → read_identifier text place ≡ Some x → behind place ≡ x.1
unfolding read_identifier take
identifier-behind text place x e =
    option_and_then_some _ (take identifier_kind place) x e λ end end-read end-then.
    let t = only_where_some (stands identifier_kind place) (Some (behind place)) end end-read in
    same_Some (behind place) end t.1 ∙ ap (λ (x : Identifier × Cursor). x.1) (same_Some _ x end-then)

-- expressions that are there
perhaps-there : (text : GoText) (es : Expressions) (from to : Cursor)
    → SpellsExpressions text as_expression es from to → perhaps es (SpellsExpressions text as_expression es) from to
unfolding SpellsExpressions
perhaps-there text no_expression from to h = absurd h
perhaps-there text (expression_and e es) from to h = h

-- a form with what is in it
abbrev Fills : GoText → ℕ → StatementForm → Cursor → Cursor → Type 0
Fills text below form from to = SpellsStatementForm text form from to × IsKept form × (below_statement form ≤ below)

module _ (text : GoText) (r : Readers) (below : ℕ) (sound : AreSound text below r) where
  abbrev Reads : Cursor → Statement × Cursor → Type 0
  Reads from x = IsReadStatement text (suc below) from x.0 x.1

  read_after_label-sound : (from : Cursor) (x : Statement × Cursor)
      → read_after_label text r below from ≡ Some x
      → SpellsStatement text x.0 from x.1 × (statement_depth x.0 ≤ below)
  unfolding SpellsStatement SpellsStatementForm statement_depth below_statement
  read_after_label-sound from x e =
      elim (two_ways (is_next is_end from) _ _ (Some x) e) [
        | inl c ↦ (
            let h = only_where_some (nat_le 1 below) _ x c.1 in
            let least = leb-true 1 below h.0 in
            given (λ (x : Statement × Cursor). SpellsStatement text x.0 from x.1 × (statement_depth x.0 ≤ below))
            _ x h.1 ((refl, refl, refl), omega arith)
            )
        | inr c ↦ (let h = sound.statement from x.1 x.0 c.1 in (h.0, h.2))
      ]

  read_labeled-sound : (from : Cursor) (x : Statement × Cursor)
      → stands Colon (behind from) ≡ true → read_labeled text r below from ≡ Some x → Reads from x
  unfolding read_labeled SpellsStatementForm below_statement
  read_labeled-sound from x k e =
      option_and_then_some _ (read_identifier text from) x e λ n n-read n-then.
      option_and_then_some _ (read_after_label text r below (behind n.1)) x n-then λ s s-read s-then.
      let colon : stands Colon n.1 ≡ true = subst (λ (c : Cursor). stands Colon c ≡ true)
      (identifier-behind text from n n-read) k in
      let h = read_after_label-sound (behind n.1) s s-read in
      given (Reads from) _ x s-then
      (node-read text below (labeled_statement n.0 s.0) from s.1
      (n.1, read_identifier-sound text from n n-read, (behind n.1, stands-sound Colon n.1 colon, h.0)) tt h.1)

  read_started-sound : (form : Expression → StatementForm) (from : Cursor) (x : Statement × Cursor)
      → ((e : Expression) (to : Cursor) → SpellsExpression text as_expression e (behind from) to → is_call e ≡ true
      → expression_depth e ≤ below → Fills text below (form e) from to)
      → read_started text r below form from ≡ Some x → Reads from x
  unfolding read_started
  read_started-sound form from x f e =
      option_and_then_some _ (r.read_expression false primary_level (behind from)) x e λ c c-read c-then.
      let h = sound.expression false primary_level (behind from) c.1 c.0 c-read in
      let k = only_where_some (is_call c.0) _ x c-then in
      let whole = f c.0 c.1 h.0 k.0 h.3 in
      given (Reads from) _ x k.1 (node-read text below (form c.0) from c.1 whole.0 whole.1 whole.2)

  read_return-sound : (from : Cursor) (x : Statement × Cursor)
      → stands ReturnKeyword from ≡ true → read_return text r below from ≡ Some x → Reads from x
  unfolding read_return SpellsStatementForm below_statement expressions_depth
  read_return-sound from x k e =
      let word = stands-sound ReturnKeyword from k in
      elim (two_ways (is_next is_end (behind from)) _ _ (Some x) e) [
        | inl c ↦ given (Reads from) _ x c.1
            (node-read text below (return_statement no_expression) from (behind from) (behind from, word, refl) tt
            (omega arith))
        | inr c ↦ (
            option_and_then_some _ (read_expressions text r false (behind from)) x c.1 λ es es-read es-then.
            let h = read_expressions-sound text r below sound false (behind from) es es-read in
            given (Reads from) _ x es-then
            (node-read text below (return_statement es.0) from es.1
            (behind from, word, perhaps-there text es.0 (behind from) es.1 h.0) tt h.2)
            )
      ]

  read_branch-sound : (form : Option Identifier → StatementForm) (from : Cursor) (x : Statement × Cursor)
      → ((n : Option Identifier) (to : Cursor) → optional_identifier text n (behind from) to → Fills text below
      (form n) from to)
      → read_branch text r below form from ≡ Some x → Reads from x
  unfolding read_branch
  read_branch-sound form from x f e =
      option_and_then_some _ (read_optional_identifier text (behind from)) x e λ n n-read n-then.
      let whole = f n.0 n.1 (read_optional_identifier-sound text (behind from) n n-read) in
      given (Reads from) _ x n-then (node-read text below (form n.0) from n.1 whole.0 whole.1 whole.2)

  read_goto-sound : (from : Cursor) (x : Statement × Cursor)
      → IsSecond text.edition
      → stands GotoKeyword from ≡ true → read_goto text r below from ≡ Some x → Reads from x
  unfolding read_goto SpellsStatementForm below_statement
  read_goto-sound from x second k e =
      option_and_then_some _ (read_identifier text (behind from)) x e λ n n-read n-then.
      let name = read_identifier-sound text (behind from) n n-read in
      given (Reads from) _ x n-then
      (node-read text below (goto_statement n.0) from n.1
      (second, (behind from, stands-sound GotoKeyword from k, name)) tt (omega arith))

  read_block_statement-sound : (from : Cursor) (x : Statement × Cursor)
      → read_block_statement text r below from ≡ Some x → Reads from x
  unfolding read_block_statement SpellsStatementForm below_statement
  read_block_statement-sound from x e =
      option_and_then_some _ (read_block text r from) x e λ b b-read b-then.
      let h = read_block-sound text r below sound from b b-read in
      given (Reads from) _ x b-then (node-read text below
      (block_statement b.0.statements b.0.braces) from b.1 h.0 tt h.1)

  -- a statement that begins with no `if`
  read_rest-sound : (from : Cursor) (x : Statement × Cursor)
      → stands IfKeyword from ≡ false → read_other_statement text r below from ≡ Some x → Reads from x
  unfolding read_other_statement SpellsStatementForm below_statement
  read_rest-sound from x none e =
      elim (two_ways (stands identifier_kind from && stands Colon (behind from)) _ _ (Some x) e) [
        | inl c ↦ read_labeled-sound from x (and_parts _ _ c.0).1 c.1
        | inr c1 ↦ elim (two_ways (stands LeftBrace from) _ _ (Some x) c1.1) [
          | inl c ↦ read_block_statement-sound from x c.1
          | inr c2 ↦ elim (two_ways (stands IfKeyword from) _ _ (Some x) c2.1) [
            | inl c ↦ absurd (true≢false (sym c.0 ∙ none))
            | inr c3 ↦ elim (two_ways (stands ForKeyword from) _ _ (Some x) c3.1) [
              | inl c ↦ read_for-sound text r below sound from x c.0 c.1
              | inr c4 ↦ elim (two_ways (stands SwitchKeyword from) _ _ (Some x) c4.1) [
                | inl c ↦ read_switch-sound text r below sound from x c.0 c.1
                | inr c5 ↦ elim (two_ways (stands SelectKeyword from) _ _ (Some x) c5.1) [
                  | inl c ↦ read_select-sound text r below sound from x c.0 c.1
                  | inr c6 ↦ elim (two_ways (stands ReturnKeyword from) _ _ (Some x) c6.1) [
                    | inl c ↦ read_return-sound from x c.0 c.1
                    | inr c7 ↦ elim (two_ways (stands GoKeyword from) _ _ (Some x) c7.1) [
                      | inl c ↦ read_started-sound go_statement from x
                          (λ call to h k d. ((k, (behind from, stands-sound GoKeyword from c.0, h)), tt, d)) c.1
                      | inr c8 ↦ elim (two_ways (stands DeferKeyword from) _ _ (Some x) c8.1) [
                        | inl c ↦ read_started-sound defer_statement from x
                            (λ call to h k d. ((k, (behind from, stands-sound DeferKeyword from c.0, h)), tt, d)) c.1
                        | inr c9 ↦ elim (two_ways (stands BreakKeyword from) _ _ (Some x) c9.1) [
                          | inl c ↦ read_branch-sound break_statement from x
                              (λ n to h. ((behind from, stands-sound BreakKeyword from c.0, h), tt, omega arith)) c.1
                          | inr c10 ↦ elim (two_ways (stands ContinueKeyword from) _ _ (Some x) c10.1) [
                            | inl c ↦ read_branch-sound continue_statement from x
                                (λ n to h. (
                                  (behind from, stands-sound ContinueKeyword from c.0, h),
                                  tt,
                                  omega arith,
                                )) c.1
                            | inr c11 ↦ elim (two_ways (is_second text.edition && stands GotoKeyword from) _ _ (Some x) c11.1) [
                              | inl c ↦ (let tests = and_parts (is_second text.edition) (stands GotoKeyword from) c.0 in
                                  read_goto-sound from x (second_is text.edition tests.0) tests.1 c.1)
                              | inr c12 ↦ elim (two_ways (is_second text.edition && stands FallthroughKeyword from) _ _ (Some x) c12.1) [
                                | inl c ↦ (let tests = and_parts (is_second text.edition) (stands FallthroughKeyword from) c.0 in
                                    given (Reads from) _ x c.1
                                    (node-read text below fallthrough_statement from (behind from)
                                    (second_is text.edition tests.0, stands-sound FallthroughKeyword from tests.1) tt
                                    (omega arith)))
                                | inr c ↦ (read_simple-sound text r below sound false from x c.1).read
                              ]
                            ]
                          ]
                        ]
                      ]
                    ]
                  ]
                ]
              ]
            ]
          ]
        ]
      ]

  read_other_statement-sound : (from : Cursor) (x : Statement × Cursor)
      → read_other_statement text r below from ≡ Some x
      → Reads from x × (stands IfKeyword from ≡ true → IsElse (form_of x.0))
  unfolding read_other_statement
  read_other_statement-sound from x e =
      elim (cases_Bool (stands IfKeyword from)) [
        | inl k ↦ elim (two_ways (stands identifier_kind from && stands Colon (behind from)) _ _ (Some x) e) [
          | inl c ↦ (let same = stands-one identifier_kind IfKeyword from (and_parts _ _ c.0).0 k in absurd (cc))
          | inr c ↦ elim (two_ways (stands LeftBrace from) _ _ (Some x) c.1) [
            | inl n ↦ (let same = stands-one LeftBrace IfKeyword from n.0 k in absurd (cc))
            | inr n ↦ elim (two_ways (stands IfKeyword from) _ _ (Some x) n.1) [
              | inl f ↦ (let h = read_if-sound text r below sound from x k f.1 in (h.0, λ t. h.1))
              | inr f ↦ absurd (true≢false (sym k ∙ f.0))
            ]
          ]
        ]
        | inr k ↦ (read_rest-sound from x k e, λ t. absurd (true≢false (sym t ∙ k)))
      ]

  pub read_statement_of-sound : (from to : Cursor) (s : Statement)
      → read_statement_of text r below from ≡ Some (s, to)
      → SpellsStatement text s from to × IsKept (form_of s) × (statement_depth s ≤ suc below)
      × (stands IfKeyword from ≡ true → IsElse (form_of s))
  unfolding read_statement_of SpellsStatementForm below_statement
  read_statement_of-sound from to s e =
      elim (option_ways _ _ (of_next declaration_keyword from) (Some (s, to)) e) [
        | inl c ↦ (let h = read_other_statement-sound from (s, to) c.1 in (h.0.spelled, h.0.kept, h.0.shallow, h.1))
        | inr c ↦ (
            option_and_then_some _ (read_declaration text r c.0 from) (s, to) c.2 λ d d-read d-then.
            let h = read_declaration-sound text r below sound c.0 from d c.1 d-read in
            let k = given (Reads from) _ (s, to) d-then
            (node-read text below (declaration_statement d.0) from d.1 h.0 tt h.1) in
            (k.spelled, k.kept, k.shallow, λ t. absurd (none-some c.0 (sym (no-declaration from t) ∙ c.1)))
            )
      ]
