-- The `switch` and `select` statements that are read are spelled and no deeper than they may be.
use Rattle.std.proofs.Common.{◌≡◌, ℕ, zero, suc, ◌≤◌, true, false, List, [], ◌∷◌, inl, inr, refl, sym, subst, le_antisymm, arith}
use Rattle.std.specs.Prelude.{Option, Some, None, nat_le}
use Rattle.std.proofs.lemmas.Option.{option_and_then_some, none-some}
use Rattle.std.proofs.lemmas.Bool.{leb-true, false≢true}
use Rattle.lexer.specs.declared.token.TokenKind.TheVariants.{CaseKeyword, DefaultKeyword, SelectKeyword, SwitchKeyword, TypeKeyword, LeftParenthesis, RightParenthesis, LeftBrace, RightBrace, Dot, Colon}
use Rattle.tree.specs.declared.span.Span.{Span}
use Rattle.tree.specs.declared.operator.BinaryOperator.{BinaryOperator}
use Rattle.tree.specs.declared.operator.BinaryOperator.TheVariants.{LogicalOr}
use Rattle.tree.specs.Syntax.{Identifier, Expression, expression_node, ExpressionForm, binary_expression, Expressions, no_expression, expression_and, OptionalExpression, Statement, statement_node, StatementForm, expression_statement, send_statement, assignment, define_statement, select_statement, OptionalStatement, CaseClauses, CommunicationClauses}
use Rattle.tree.specs.Depth.{expression_depth, expressions_depth, optional_depth, statement_depth, below_statement, optional_statement_depth, cases_depth, communications_depth}
use Rattle.meaning.specs.Cursor.{GoText, Cursor, ◌⨾◌, token, identifier}
use Rattle.meaning.specs.WellFormed.{operator_level, form_level, level, primary_level, IsPrimary, FitsHeader, OptionalFitsHeader, IsOne, IsCommunication}
use Rattle.meaning.specs.Mentions.{is_one}
use Rattle.meaning.specs.Grammar.{as_expression, in_parentheses, in_braces, guard_name, case_head, communication_head, form_of, CommunicationFits, SpellsExpression, SpellsExpressions, SpellsMore, SpellsOptional, SpellsOptionalStatement, SpellsStatement, SpellsStatementForm, SpellsCases, SpellsCommunications}
use Rattle.tree_reader.specs.Reading.{stands, behind, take, steps, spanned_statement}
use Rattle.tree_reader.specs.Reader.{Readers, Header, Guard, of_value, of_type, primary_guard, type_guard, is_communication, as_part, statement_expression, read_statements, read_simple, read_case_head, read_cases, read_communication, read_communication_head, read_communications, read_guard, read_switch_guard, switch_form, read_switch_header, read_switch, read_select}
use Rattle.tree_reader.specs.Claims.{AreSound}
use Rattle.tree_reader.proofs.Steps.{given, two_ways, only_where_some, stands-sound, take-sound}
use Rattle.tree_reader.proofs.SoundLists.{read_expressions-sound}
use Rattle.tree_reader.proofs.SoundBlocks.{read_statements-sound}
use Rattle.tree_reader.proofs.SoundStatementsSimple.{IsReadStatement, IsReadSimple, node-read, read_simple-sound}
use Rattle.tree_reader.proofs.SoundStatementsHeaders.{IsReadHeader, ReadsFirst, as_part-sound, statement_expression-sound, read_header-sound}

-- an operand, perhaps after a name that is declared, in a header
pub record IsNamedOperand (text : GoText) (below : ℕ) (from : Cursor) (n : Option Identifier) (e : Expression)
    (to : Cursor) : Type 0 where
  pub spelled : (guard_name text n ⨾ SpellsExpression text as_expression e) from to
  pub fits : FitsHeader e
  pub primary : IsPrimary e
  pub shallow : expression_depth e ≤ below

-- what the type is asked of, before the dot
abbrev pub IsTypeGuard : GoText → ℕ → Cursor → Guard → Cursor → Type 0
IsTypeGuard text below from (of_value tag) to = ⊥
IsTypeGuard text below from (of_type n e) to = IsNamedOperand text below from n e to

-- a value, or nothing
pub record IsTag (text : GoText) (below : ℕ) (from : Cursor) (tag : OptionalExpression) (to : Cursor) : Type 0 where
  pub spelled : SpellsOptional text as_expression tag from to
  pub fits : OptionalFitsHeader tag
  pub shallow : optional_depth tag ≤ below

-- a value or nothing, or a type that is asked for
abbrev pub IsReadGuard : GoText → ℕ → Cursor → Guard → Cursor → Type 0
IsReadGuard text below from (of_value tag) to = IsTag text below from tag to
IsReadGuard text below from (of_type n e) to =
    (dot : Cursor) × IsNamedOperand text below from n e dot × (token Dot ⨾ in_parentheses (token TypeKeyword)) dot to

operator_level-most : (op : BinaryOperator) → operator_level op ≤ primary_level
operator_level-most LogicalOr = omega arith
operator_level-most op = omega arith

form_level-most : (form : ExpressionForm) → form_level form ≤ primary_level
form_level-most (binary_expression op l r) = operator_level-most op
form_level-most form = omega arith

level-most : (e : Expression) → level e ≤ primary_level
level-most (expression_node form span) = form_level-most form

primary_guard-sound : (text : GoText) (below : ℕ) (from to : Cursor) (n : Option Identifier) (e : Expression)
    (g : Guard)
    → (guard_name text n ⨾ SpellsExpression text as_expression e) from to → FitsHeader e → expression_depth e ≤ below
    → primary_guard n e ≡ Some g → IsTypeGuard text below from g to
primary_guard-sound text below from to n e g h f d p =
    let k = only_where_some (nat_le primary_level (level e)) (Some (of_type n e)) g p in
    let most = level-most e in
    let least = leb-true primary_level (level e) k.0 in
    given (λ (g : Guard). IsTypeGuard text below from g to) (of_type n e) g k.1 (record {
      spelled = h;
      fits = f;
      primary = le_antisymm most least;
      shallow = d;
    })

type_guard-sound : (text : GoText) (below : ℕ) (from to : Cursor) (form : StatementForm) (span : Span) (g : Guard)
    → IsReadSimple text (suc below) true from (statement_node form span) to → type_guard form ≡ Some g
    → IsTypeGuard text below from g to
unfolding SpellsStatement SpellsStatementForm SpellsExpressions SpellsMore statement_depth below_statement expressions_depth
type_guard-sound text below from to (expression_statement e) span g h t =
    let deep = h.read.shallow in
    primary_guard-sound text below from to None e g (from, refl, h.read.spelled.0) (h.fits refl) (omega arith) t
type_guard-sound text below from to (define_statement (n ∷ []) (expression_and e no_expression)) span g h t =
    let deep = h.read.shallow in
    let spelled = h.read.spelled.0 in
    let name = subst (λ (c : Cursor). identifier text n from c) spelled.1.2 spelled.1.1 in
    let operand = subst (λ (c : Cursor).
    SpellsExpression text as_expression e spelled.2.0 c) spelled.2.2.2 spelled.2.2.1 in
    primary_guard-sound text below from to (Some n) e g (spelled.2.0, (spelled.0, name, spelled.2.1), operand)
    (h.fits refl).0 (omega arith) t
type_guard-sound text below from to form span g h t = absurd (none-some g t)

is_one-sound : (es : Expressions) → is_one es ≡ true → IsOne es
is_one-sound (expression_and e no_expression) t = tt
is_one-sound es t = absurd (false≢true t)

-- what a clause of a `select` waits for can do so
is_communication-sound : (form : StatementForm) → is_communication form ≡ true → IsCommunication form
is_communication-sound (send_statement c v) t = tt
is_communication-sound (expression_statement e) t = tt
is_communication-sound (assignment ls rs) t = is_one-sound rs t
is_communication-sound (define_statement ns rs) t = is_one-sound rs t
is_communication-sound form t = absurd (false≢true t)

communication-of : (s : Statement) → is_communication (form_of s) ≡ true → IsCommunication (form_of s)
communication-of (statement_node form span) t = is_communication-sound form t

module _ (text : GoText) (r : Readers) (below : ℕ) (sound : AreSound text below r) where
  -- the expressions of a clause, none of `default`
  abbrev ReadsCaseHead : Cursor → Expressions × Cursor → Type 0
  ReadsCaseHead from x = case_head x.0 (SpellsExpressions text as_expression x.0) from x.1
      × (expressions_depth x.0 ≤ below)

  case-head : (es : Expressions) (from word to : Cursor)
      → token CaseKeyword from word → SpellsExpressions text as_expression es word to
      → case_head es (SpellsExpressions text as_expression es) from to
  unfolding SpellsExpressions
  case-head no_expression from word to t h = absurd h
  case-head (expression_and e es) from word to t h = (word, t, h)

  read_case_head-sound : (from : Cursor) (x : Expressions × Cursor)
      → read_case_head text r below from ≡ Some x → ReadsCaseHead from x
  unfolding expressions_depth
  read_case_head-sound from x e =
      elim (two_ways (stands DefaultKeyword from) _ _ (Some x) e) [
        | inl c ↦ given (ReadsCaseHead from) _ x c.1 (stands-sound DefaultKeyword from c.0, omega arith)
        | inr c ↦ (
            option_and_then_some _ (take CaseKeyword from) x c.1 λ word word-read word-then.
            let h = read_expressions-sound text r below sound false word x word-then in
            (case-head x.0 from word x.1 (take-sound CaseKeyword from word word-read) h.0, h.2)
            )
      ]

  abbrev ReadsCases : Cursor → CaseClauses × Cursor → Type 0
  ReadsCases from x = SpellsCases text x.0 from x.1 × (cases_depth x.0 ≤ below)

  read_cases-sound : (n : ℕ) (from : Cursor) (x : CaseClauses × Cursor)
      → read_cases text r below n from ≡ Some x → ReadsCases from x
  unfolding read_cases SpellsCases cases_depth
  read_cases-sound zero from x e = absurd (none-some x e)
  read_cases-sound (suc n) from x e =
      elim (two_ways (stands RightBrace from) _ _ (Some x) e) [
        | inl c ↦ given (ReadsCases from) _ x c.1 (refl, omega arith)
        | inr c ↦ (
            option_and_then_some _ (read_case_head text r below from) x c.1 λ es es-read es-then.
            option_and_then_some _ (take Colon es.1) x es-then λ inner inner-read inner-then.
            option_and_then_some _ (read_statements text r (steps inner) inner) x inner-then λ ss ss-read ss-then.
            option_and_then_some _ (read_cases text r below n ss.1) x ss-then λ more more-read more-then.
            let head = read_case_head-sound from es es-read in
            let body = read_statements-sound text r below sound (steps inner) inner ss ss-read in
            let others = read_cases-sound n ss.1 more more-read in
            let first = head.1 in
            let second = body.1 in
            let third = others.1 in
            given (ReadsCases from) _ x more-then (
              (ss.1, ((es.1, head.0, (inner, take-sound Colon es.1 inner inner-read, body.0)), refl, refl), others.0),
              omega arith,
            )
            )
      ]

  -- what a clause of a `select` waits for, and its depth
  abbrev ReadsCommunication : Cursor → OptionalStatement × Cursor → Type 0
  ReadsCommunication from x =
      CommunicationFits x.0 × communication_head x.0 (SpellsOptionalStatement text x.0) from x.1
      × (optional_statement_depth x.0 ≤ below)

  read_communication-sound : (from word : Cursor) (x : OptionalStatement × Cursor)
      → token CaseKeyword from word → read_communication text r below word ≡ Some x → ReadsCommunication from x
  unfolding read_communication SpellsOptionalStatement optional_statement_depth
  read_communication-sound from word x k e =
      option_and_then_some _ (read_simple text r below false word) x e λ s s-read s-then.
      option_and_then_some _ (as_part text r below s.0) x s-then λ part part-read part-then.
      let h = read_simple-sound text r below sound false word s s-read in
      let p = as_part-sound text r below s.0 part part-read in
      let c = only_where_some (is_communication (form_of s.0)) _ x part-then in
      given (ReadsCommunication from) _ x c.1
      (subst (λ (part : OptionalStatement). ReadsCommunication from (part, s.1)) p.0
      (communication-of s.0 c.0, (word, k, h.read.spelled), p.1))

  read_communication_head-sound : (from : Cursor) (x : OptionalStatement × Cursor)
      → read_communication_head text r below from ≡ Some x → ReadsCommunication from x
  unfolding optional_statement_depth
  read_communication_head-sound from x e =
      elim (two_ways (stands DefaultKeyword from) _ _ (Some x) e) [
        | inl c ↦ given (ReadsCommunication from) _ x c.1 (tt, stands-sound DefaultKeyword from c.0, omega arith)
        | inr c ↦ (
            option_and_then_some _ (take CaseKeyword from) x c.1 λ word word-read word-then.
            read_communication-sound from word x (take-sound CaseKeyword from word word-read) word-then
            )
      ]

  abbrev ReadsCommunications : Cursor → CommunicationClauses × Cursor → Type 0
  ReadsCommunications from x = SpellsCommunications text x.0 from x.1 × (communications_depth x.0 ≤ below)

  read_communications-sound : (n : ℕ) (from : Cursor) (x : CommunicationClauses × Cursor)
      → read_communications text r below n from ≡ Some x → ReadsCommunications from x
  unfolding read_communications SpellsCommunications communications_depth
  read_communications-sound zero from x e = absurd (none-some x e)
  read_communications-sound (suc n) from x e =
      elim (two_ways (stands RightBrace from) _ _ (Some x) e) [
        | inl c ↦ given (ReadsCommunications from) _ x c.1 (refl, omega arith)
        | inr c ↦ (
            option_and_then_some _ (read_communication_head text r below from) x c.1 λ head head-read head-then.
            option_and_then_some _ (take Colon head.1) x head-then λ inner inner-read inner-then.
            option_and_then_some _ (read_statements text r (steps inner) inner) x inner-then λ ss ss-read ss-then.
            option_and_then_some _ (read_communications text r below n ss.1) x ss-then λ more more-read more-then.
            let h = read_communication_head-sound from head head-read in
            let body = read_statements-sound text r below sound (steps inner) inner ss ss-read in
            let others = read_communications-sound n ss.1 more more-read in
            let first = h.2 in
            let second = body.1 in
            let third = others.1 in
            given (ReadsCommunications from) _ x more-then (
              (
                h.0,
                (
                  ss.1,
                  ((head.1, h.1, (inner, take-sound Colon head.1 inner inner-read, body.0)), refl, refl),
                  others.0,
                ),
              ),
              omega arith,
            )
            )
      ]

  pub read_select-sound : (from : Cursor) (x : Statement × Cursor)
      → stands SelectKeyword from ≡ true → read_select text r below from ≡ Some x
      → IsReadStatement text (suc below) from x.0 x.1
  unfolding read_select SpellsStatementForm below_statement
  read_select-sound from x k e =
      option_and_then_some _ (take LeftBrace (behind from)) x e λ inner inner-read inner-then.
      option_and_then_some _ (read_communications text r below (steps inner) inner) x inner-then λ cs cs-read cs-then.
      option_and_then_some _ (take RightBrace cs.1) x cs-then λ end end-read end-then.
      let h = read_communications-sound (steps inner) inner cs cs-read in
      given (λ (x : Statement × Cursor). IsReadStatement text (suc below) from x.0 x.1) _ x end-then
      (node-read text below (select_statement cs.0) from end (
        behind from,
        stands-sound SelectKeyword from k,
        (
          inner,
          take-sound LeftBrace (behind from) inner inner-read,
          (cs.1, h.0, take-sound RightBrace cs.1 end end-read),
        ),
      )
      tt h.1)

  abbrev ReadsGuard : Cursor → Guard × Cursor → Type 0
  ReadsGuard from x = IsReadGuard text below from x.0 x.1

  guard-of : (s : Statement) (g : Guard) (from to : Cursor)
      → IsReadSimple text (suc below) true from s to → type_guard (form_of s) ≡ Some g
      → IsTypeGuard text below from g to
  guard-of (statement_node form span) g from to h t = type_guard-sound text below from to form span g h t

  asked : (g : Guard) (from dot to : Cursor)
      → IsTypeGuard text below from g dot → (token Dot ⨾ in_parentheses (token TypeKeyword)) dot to
      → ReadsGuard from (g, to)
  asked (of_value tag) from dot to h t = absurd h
  asked (of_type n e) from dot to h t = (dot, h, t)

  read_guard-sound : (s : Statement) (from place : Cursor) (x : Guard × Cursor)
      → IsReadSimple text (suc below) true from s place → read_guard text r below s place ≡ Some x → ReadsGuard from x
  unfolding read_guard SpellsOptional optional_depth
  read_guard-sound s from place x h e =
      elim (two_ways (stands Dot place) _ _ (Some x) e) [
        | inl c ↦ (
            option_and_then_some _ (type_guard (form_of s)) x c.1 λ guard guard-read guard-then.
            option_and_then_some _ (take LeftParenthesis (behind place)) x guard-then λ inner inner-read inner-then.
            option_and_then_some _ (take TypeKeyword inner) x inner-then λ word word-read word-then.
            option_and_then_some _ (take RightParenthesis word) x word-then λ end end-read end-then.
            given (ReadsGuard from) _ x end-then
            (asked guard from place end (guard-of s guard from place h guard-read) (
              behind place,
              stands-sound Dot place c.0,
              (
                inner,
                take-sound LeftParenthesis (behind place) inner inner-read,
                (word, take-sound TypeKeyword inner word word-read, take-sound RightParenthesis word end end-read),
              ),
            ))
            )
        | inr c ↦ (
            option_and_then_some _ (statement_expression text r below s) x c.1 λ operand operand-read operand-then.
            let k = statement_expression-sound text r below s operand from place h operand-read in
            given (ReadsGuard from) _ x operand-then
            (record { spelled = k.spelled; fits = k.fits; shallow = k.shallow })
            )
      ]

  read_switch_guard-sound : (first : Option Statement) (from place : Cursor) (x : Guard × Cursor)
      → ReadsFirst text below first from place → read_switch_guard text r below first place ≡ Some x
      → ReadsGuard from x
  unfolding read_switch_guard SpellsOptional optional_depth
  read_switch_guard-sound (Some s) from place x f e = read_guard-sound s from place x f e
  read_switch_guard-sound None from place x f e =
      subst (λ (c : Cursor). ReadsGuard c x) (sym f) (elim (two_ways (stands LeftBrace place) _ _ (Some x) e) [
        | inl c ↦ given (ReadsGuard place) _ x c.1 (record { spelled = refl; fits = tt; shallow = omega arith })
        | inr c ↦ (
            option_and_then_some _ (read_simple text r below true place) x c.1 λ s s-read s-then.
            read_guard-sound s.0 place s.1 x (read_simple-sound text r below sound true place s s-read) s-then
            )
      ])

  -- a switch's header and guard with its clauses
  switch-form : (header : Header) (g : Guard) (cs : CaseClauses) (from start place end : Cursor)
      (h : IsReadHeader text below start header place)
      → token SwitchKeyword from start → IsReadGuard text below h.between g end → (to : Cursor)
      → in_braces (SpellsCases text cs) end to → cases_depth cs ≤ below
      → IsReadStatement text (suc below) from (spanned_statement from (switch_form text r below header g cs) to).0 to
  unfolding SpellsStatementForm below_statement
  switch-form header (of_value tag) cs from start place end h k g to c d =
      let first = h.shallow in
      let second = g.shallow in
      node-read text below (switch_form text r below header (of_value tag) cs) from to
      (h.fits, (g.fits, (start, k, (h.between, h.spelled, (end, g.spelled, c))))) tt (omega arith)
  switch-form header (of_type n e) cs from start place end h k g to c d =
      let operand = g.1 in
      let first = h.shallow in
      let second = operand.shallow in
      let named = operand.spelled in
      node-read text below (switch_form text r below header (of_type n e) cs) from to (
        h.fits,
        (
          operand.fits,
          (
            operand.primary,
            (start, k, (h.between, h.spelled, (named.0, named.1, (g.0, named.2, (g.2.0, g.2.1, (end, g.2.2, c)))))),
          ),
        ),
      )
      tt (omega arith)

  read_switch_header-sound : (from : Cursor) (x : Header × Cursor)
      → read_switch_header text r below from ≡ Some x → IsReadHeader text below from x.0 x.1
  unfolding optional_statement_depth
  read_switch_header-sound from x e =
      elim (two_ways (stands LeftBrace from) _ _ (Some x) e) [
        | inl c ↦ given (λ (x : Header × Cursor). IsReadHeader text below from x.0 x.1) _ x c.1
            (record { between = from; spelled = refl; fits = tt; shallow = omega arith; first = refl })
        | inr c ↦ read_header-sound text r below sound from x c.1
      ]

  pub read_switch-sound : (from : Cursor) (x : Statement × Cursor)
      → stands SwitchKeyword from ≡ true → read_switch text r below from ≡ Some x
      → IsReadStatement text (suc below) from x.0 x.1
  unfolding read_switch
  read_switch-sound from x k e =
      option_and_then_some _ (read_switch_header text r below (behind from)) x e λ header header-read header-then.
      option_and_then_some _ (read_switch_guard text r below header.0.first header.1) x header-then λ guard guard-read guard-then.
      option_and_then_some _ (take LeftBrace guard.1) x guard-then λ inner inner-read inner-then.
      option_and_then_some _ (read_cases text r below (steps inner) inner) x inner-then λ cs cs-read cs-then.
      option_and_then_some _ (take RightBrace cs.1) x cs-then λ end end-read end-then.
      let h = read_switch_header-sound (behind from) header header-read in
      let g = read_switch_guard-sound header.0.first h.between header.1 guard h.first guard-read in
      let c = read_cases-sound (steps inner) inner cs cs-read in
      given (λ (x : Statement × Cursor). IsReadStatement text (suc below) from x.0 x.1) _ x end-then
      (switch-form header.0 guard.0 cs.0 from (behind from) header.1 guard.1 h (stands-sound SwitchKeyword from k) g end
      (inner, take-sound LeftBrace guard.1 inner inner-read, (cs.1, c.0, take-sound RightBrace cs.1 end end-read)) c.1)
