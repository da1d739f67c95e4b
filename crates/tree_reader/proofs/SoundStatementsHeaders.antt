-- What is read of a header, of a condition, of what follows `else`, and of an `if`, is spelled, fits where it stands
-- and is no deeper than it may be.
use Rattle.std.proofs.Common.{◌≡◌, ℕ, suc, ◌≤◌, true, List, inl, inr, refl, sym, subst, arith}
use Rattle.std.specs.Prelude.{Option, Some, None, nat_le}
use Rattle.std.proofs.lemmas.Option.{option_and_then_some, none-some, same_Some}
use Rattle.std.proofs.lemmas.Bool.{leb-true}
use Rattle.lexer.specs.declared.token.TokenKind.TheVariants.{ElseKeyword, IfKeyword, Semicolon}
use Rattle.tree.specs.Syntax.{Expression, Statement, statement_node, StatementForm, expression_statement, block_statement, if_statement, OptionalStatement, present_statement}
use Rattle.tree.specs.Depth.{expression_depth, statement_depth, below_statement, optional_statement_depth, else_depth, else_branch_depth}
use Rattle.tree.specs.declared.span.Span.{Span}
use Rattle.meaning.specs.Cursor.{GoText, Cursor, semicolon}
use Rattle.meaning.specs.WellFormed.{FitsHeader, StatementFitsHeader, InitFitsHeader, IsElse}
use Rattle.meaning.specs.Grammar.{as_expression, initial, form_of, SpellsExpression, SpellsElse, SpellsOptionalStatement, SpellsStatement, SpellsStatementForm}
use Rattle.tree_reader.specs.Reading.{stands, behind, behind_semicolon}
use Rattle.tree_reader.specs.Reader.{Readers, Header, as_part, statement_expression, expression_of, read_simple, read_block, read_header, read_condition, read_else, read_if}
use Rattle.tree_reader.specs.Claims.{AreSound}
use Rattle.tree_reader.proofs.Steps.{given, two_ways, only_where_some, stands-sound, behind_semicolon-sound}
use Rattle.tree_reader.proofs.SoundBlocks.{read_block-sound}
use Rattle.tree_reader.proofs.SoundStatementsSimple.{IsReadStatement, IsReadSimple, node-read, read_simple-sound}

-- an expression in a header
pub record IsCondition (text : GoText) (below : ℕ) (from : Cursor) (e : Expression) (to : Cursor) : Type 0 where
  pub spelled : SpellsExpression text as_expression e from to
  pub fits : FitsHeader e
  pub shallow : expression_depth e ≤ below

-- what was read of a header and is no statement with its semicolon
abbrev pub ReadsFirst : GoText → ℕ → Option Statement → Cursor → Cursor → Type 0
ReadsFirst text below None from to = from ≡ to
ReadsFirst text below (Some s) from to = IsReadSimple text (suc below) true from s to

-- a header: a statement with its semicolon up to a place, and then what stands there without one
pub record IsReadHeader (text : GoText) (below : ℕ) (from : Cursor) (h : Header) (to : Cursor) : Type 0 where
  pub between : Cursor
  pub spelled : initial h.init h.has_semicolon (SpellsOptionalStatement text h.init) from between
  pub fits : InitFitsHeader h.init
  pub shallow : optional_statement_depth h.init ≤ below
  pub first : ReadsFirst text below h.first between to

-- a statement of a header, as a part
pub record IsReadPart (text : GoText) (below : ℕ) (from : Cursor) (part : OptionalStatement)
    (to : Cursor) : Type 0 where
  pub spelled : SpellsOptionalStatement text part from to
  pub fits : InitFitsHeader part
  pub shallow : optional_statement_depth part ≤ below
  -- with its semicolon
  pub begins : (after : Cursor) → semicolon to after → initial part true (SpellsOptionalStatement text part) from after

init-fits : (s : Statement) → StatementFitsHeader (form_of s) → InitFitsHeader (present_statement s)
init-fits (statement_node form span) f = f

-- what is not too deep can be a part
pub as_part-sound : (text : GoText) (r : Readers) (below : ℕ) (s : Statement) (part : OptionalStatement)
    → as_part text r below s ≡ Some part → (present_statement s ≡ part) × (statement_depth s ≤ below)
as_part-sound text r below s part e =
    let h = only_where_some (nat_le (statement_depth s) below) (Some (present_statement s)) part e in
    (same_Some (present_statement s) part h.1, leb-true (statement_depth s) below h.0)

pub read_part-sound : (text : GoText) (r : Readers) (below : ℕ) (from to : Cursor) (s : Statement)
    (part : OptionalStatement)
    → IsReadSimple text (suc below) true from s to → as_part text r below s ≡ Some part
    → IsReadPart text below from part to
unfolding SpellsOptionalStatement optional_statement_depth
read_part-sound text r below from to s part h e =
    let p = as_part-sound text r below s part e in
    subst (λ (part : OptionalStatement). IsReadPart text below from part to) p.0 (record {
      spelled = h.read.spelled;
      fits = init-fits s (h.fits refl);
      shallow = p.1;
      begins = λ after end. (to, h.read.spelled, end);
    })

-- a statement that is only an expression
expression_of-sound : (text : GoText) (r : Readers) (below : ℕ) (form : StatementForm) (span : Span) (e : Expression)
    (from to : Cursor)
    → IsReadSimple text (suc below) true from (statement_node form span) to → expression_of text r below form ≡ Some e
    → IsCondition text below from e to
unfolding SpellsStatement SpellsStatementForm statement_depth below_statement
expression_of-sound text r below (expression_statement c) span e from to h t =
    let deep = h.read.shallow in
    given (λ (e : Expression). IsCondition text below from e to) c e t
    (record { spelled = h.read.spelled.0; fits = h.fits refl; shallow = omega arith })
expression_of-sound text r below form span e from to h t = absurd (none-some e t)

pub statement_expression-sound : (text : GoText) (r : Readers) (below : ℕ) (s : Statement) (e : Expression)
    (from to : Cursor)
    → IsReadSimple text (suc below) true from s to → statement_expression text r below s ≡ Some e
    → IsCondition text below from e to
statement_expression-sound text r below
    (statement_node form span) e from to h t = expression_of-sound text r below form span e from to h t

module _ (text : GoText) (r : Readers) (below : ℕ) (sound : AreSound text below r) where
  pub read_header-sound : (from : Cursor) (x : Header × Cursor)
      → read_header text r below from ≡ Some x → IsReadHeader text below from x.0 x.1
  unfolding read_header optional_statement_depth
  read_header-sound from x e =
      elim (two_ways (stands Semicolon from) _ _ (Some x) e) [
        | inl c ↦ given (λ (x : Header × Cursor). IsReadHeader text below from x.0 x.1) _ x c.1 (record {
          between = behind_semicolon from;
          spelled = inl (behind_semicolon-sound from c.0);
          fits = tt;
          shallow = omega arith;
          first = refl;
        })
        | inr c ↦ (
            option_and_then_some _ (read_simple text r below true from) x c.1 λ s s-read s-then.
            let h = read_simple-sound text r below sound true from s s-read in
            elim (two_ways (stands Semicolon s.1) _ _ (Some x) s-then) [
              | inl k ↦ (
                  option_and_then_some _ (as_part text r below s.0) x k.1 λ part part-read part-then.
                  let p = read_part-sound text r below from s.1 s.0 part h part-read in
                  given (λ (x : Header × Cursor). IsReadHeader text below from x.0 x.1) _ x part-then (record {
                    between = behind_semicolon s.1;
                    spelled = p.begins (behind_semicolon s.1) (inl (behind_semicolon-sound s.1 k.0));
                    fits = p.fits;
                    shallow = p.shallow;
                    first = refl;
                  })
                  )
              | inr k ↦ given (λ (x : Header × Cursor). IsReadHeader text below from x.0 x.1) _ x k.1 (record {
                between = from;
                spelled = refl;
                fits = tt;
                shallow = omega arith;
                first = h;
              })
            ]
            )
      ]

  pub read_condition-sound : (first : Option Statement) (from place : Cursor) (x : Expression × Cursor)
      → ReadsFirst text below first from place → read_condition text r below first place ≡ Some x
      → IsCondition text below from x.0 x.1
  unfolding read_condition
  read_condition-sound None from place x f e =
      let h = sound.expression true 1 place x.1 x.0 e in
      subst (λ (c : Cursor). IsCondition text below c x.0 x.1) (sym f)
      (record { spelled = h.0; fits = h.2; shallow = h.3 })
  read_condition-sound (Some s) from place x f e =
      option_and_then_some _ (statement_expression text r below s) x e λ c c-read c-then.
      given (λ (x : Expression × Cursor). IsCondition text below from x.0 x.1) _ x c-then
      (statement_expression-sound text r below s c from place f c-read)

  -- the depth of what stands after `else`
  else-shallow : (s : Statement) (n : ℕ) → statement_depth s ≤ n → else_branch_depth s ≤ n
  unfolding statement_depth else_branch_depth
  else-shallow (statement_node (block_statement ss braces) span) n d = omega arith
  else-shallow (statement_node form span) n d = d

  pub read_else-sound : (from : Cursor) (x : OptionalStatement × Cursor)
      → read_else text r below from ≡ Some x → SpellsElse text x.0 from x.1 × (else_depth x.0 ≤ below)
  unfolding read_else SpellsElse SpellsStatementForm else_depth else_branch_depth below_statement
  read_else-sound from x e =
      elim (two_ways (stands ElseKeyword from) _ _ (Some x) e) [
        | inl c ↦ elim (two_ways (stands IfKeyword (behind from)) _ _ (Some x) c.1) [
          | inl k ↦ (
              option_and_then_some _ (r.read_statement (behind from)) x k.1 λ s s-read s-then.
              let h = sound.statement (behind from) s.1 s.0 s-read in
              given (λ (x : OptionalStatement × Cursor). SpellsElse text x.0 from x.1 × (else_depth x.0 ≤ below))
              _ x s-then
              ((h.3 k.0, (behind from, stands-sound ElseKeyword from c.0, h.0)), else-shallow s.0 below h.2)
              )
          | inr k ↦ (
              option_and_then_some _ (read_block text r (behind from)) x k.1 λ b b-read b-then.
              let h = read_block-sound text r below sound (behind from) b b-read in
              let form = block_statement b.0.statements b.0.braces in
              let s = node-read text below form (behind from) b.1 h.0 tt h.1 in
              given (λ (x : OptionalStatement × Cursor). SpellsElse text x.0 from x.1 × (else_depth x.0 ≤ below))
              _ x b-then
              ((tt, (behind from, stands-sound ElseKeyword from c.0, s.spelled)), h.1)
              )
        ]
        | inr c ↦ given (λ (x : OptionalStatement × Cursor). SpellsElse text x.0 from x.1 × (else_depth x.0 ≤ below))
            _ x c.1 (refl, omega arith)
      ]

  pub read_if-sound : (from : Cursor) (x : Statement × Cursor)
      → stands IfKeyword from ≡ true → read_if text r below from ≡ Some x
      → IsReadStatement text (suc below) from x.0 x.1 × IsElse (form_of x.0)
  unfolding read_if SpellsStatementForm below_statement
  read_if-sound from x k e =
      option_and_then_some _ (read_header text r below (behind from)) x e λ header header-read header-then.
      option_and_then_some _ (read_condition text r below header.0.first header.1) x header-then λ c c-read c-then.
      option_and_then_some _ (read_block text r c.1) x c-then λ b b-read b-then.
      option_and_then_some _ (read_else text r below b.1) x b-then λ otherwise otherwise-read otherwise-then.
      let h = read_header-sound (behind from) header header-read in
      let condition = read_condition-sound header.0.first h.between header.1 c h.first c-read in
      let body = read_block-sound text r below sound c.1 b b-read in
      let rest = read_else-sound b.1 otherwise otherwise-read in
      let form = if_statement header.0.init header.0.has_semicolon c.0 b.0.statements b.0.braces otherwise.0 in
      let first = h.shallow in
      let second = condition.shallow in
      let third = body.1 in
      let fourth = rest.1 in
      let spelled : SpellsStatementForm text form from otherwise.1 = (
        h.fits,
        (
          condition.fits,
          (
            behind from,
            stands-sound IfKeyword from k,
            (h.between, h.spelled, (c.1, condition.spelled, (b.1, body.0, rest.0))),
          ),
        ),
      ) in
      given (λ (x : Statement × Cursor). IsReadStatement text (suc below) from x.0 x.1 × IsElse (form_of x.0))
      _ x otherwise-then
      (node-read text below form from otherwise.1 spelled tt (omega arith), tt)
