-- The `for` statements that are read are spelled and no deeper than they may be.
use Rattle.std.proofs.Common.{◌≡◌, ℕ, suc, ◌≤◌, true, false, List, inl, inr, refl, arith}
use Rattle.std.specs.Prelude.{Some, ◌&&◌}
use Rattle.std.proofs.lemmas.Option.{option_and_then_some}
use Rattle.std.proofs.lemmas.Bool.{and_parts}
use Rattle.lexer.specs.declared.token.TokenKind.{TokenKind}
use Rattle.lexer.specs.declared.token.TokenKind.TheVariants.{Assign, Define, ForKeyword, RangeKeyword, LeftBrace, Semicolon}
use Rattle.tree.specs.declared.span.Span.{Span}
use Rattle.tree.specs.Syntax.{Expression, Expressions, no_expression, expression_and, missing_expression, present_expression, Statement, StatementForm, for_statement, range_assignment, range_definition, Statements, OptionalStatement, missing_statement}
use Rattle.tree.specs.Depth.{expressions_depth, optional_depth, statements_depth, below_statement, optional_statement_depth}
use Rattle.meaning.specs.Cursor.{GoText, Cursor, ◌⨾◌, token, semicolon}
use Rattle.meaning.specs.WellFormed.{FitHeader, InitFitsHeader, IsKept}
use Rattle.meaning.specs.Grammar.{as_expression, block, range_left, SpellsExpressions, SpellsOptional, SpellsStatements, SpellsOptionalStatement, SpellsStatementForm}
use Rattle.tree_reader.specs.Reading.{stands, behind, behind_semicolon, take}
use Rattle.tree_reader.specs.Reader.{Readers, as_identifiers, as_part, statement_expression, read_expressions, read_expression_unless, read_block, read_simple, read_simple_after, read_loop, read_post, read_clauses, read_range, read_for_after, read_for}
use Rattle.tree_reader.specs.Claims.{AreSound}
use Rattle.tree_reader.proofs.Steps.{given, two_ways, only_where_some, stands-sound, behind_semicolon-sound}
use Rattle.tree_reader.proofs.SoundLists.{read_expressions-sound, read_expression_unless-sound}
use Rattle.tree_reader.proofs.SoundBlocks.{read_block-sound}
use Rattle.tree_reader.proofs.SoundStatementsSimple.{IsReadStatement, node-read, as_identifiers-sound, read_simple-sound, read_simple_after-sound}
use Rattle.tree_reader.proofs.SoundStatementsHeaders.{IsReadPart, IsCondition, read_part-sound, statement_expression-sound}

abbrev Reads : GoText → ℕ → Cursor → Statement × Cursor → Type 0
Reads text below from x = IsReadStatement text (suc below) from x.0 x.1

take-stands : (kind : TokenKind) (from to : Cursor) → take kind from ≡ Some to → stands kind from ≡ true
unfolding take
take-stands kind from to e = (only_where_some (stands kind from) (Some (behind from)) to e).0

range-left : (text : GoText) (es : Expressions) (from place : Cursor)
    → SpellsExpressions text as_expression es from place → stands Assign place ≡ true
    → range_left es (SpellsExpressions text as_expression es) from (behind place)
unfolding SpellsExpressions
range-left text no_expression from place h a = absurd h
range-left text (expression_and e es) from place h a = (place, h, stands-sound Assign place a)

module _ (text : GoText) (r : Readers) (below : ℕ) (sound : AreSound text below r) where
  -- a loop's block closes what was read of its header
  read_loop-sound : (from place : Cursor) (form : Statements → Span → StatementForm) (x : Statement × Cursor)
      → ((ss : Statements) (braces : Span) (to : Cursor) → block braces (SpellsStatements text ss) place to
      → statements_depth ss ≤ below → SpellsStatementForm text (form ss braces) from to × IsKept (form ss braces)
      × (below_statement (form ss braces) ≤ below))
      → read_loop text r below from form place ≡ Some x → Reads text below from x
  unfolding read_loop
  read_loop-sound from place form x f e =
      option_and_then_some _ (read_block text r place) x e λ b b-read b-then.
      let h = read_block-sound text r below sound place b b-read in
      let whole = f b.0.statements b.0.braces b.1 h.0 h.1 in
      given (Reads text below from) _ x b-then
      (node-read text below (form b.0.statements b.0.braces) from b.1 whole.0 whole.1 whole.2)

  -- the statement after a loop's second semicolon, or none before its block
  post-sound : (place : Cursor) (x : OptionalStatement × Cursor) → Some (missing_statement, place) ≡ Some x
      → IsReadPart text below place x.0 x.1
  unfolding SpellsOptionalStatement optional_statement_depth
  post-sound place x e =
      given (λ (x : OptionalStatement × Cursor). IsReadPart text below place x.0 x.1) _ x e (record {
        spelled = refl;
        fits = tt;
        shallow = omega arith;
        begins = λ after end. end;
      })

  -- a condition and a statement between a loop's semicolons
  read_clauses-sound : (from start place : Cursor) (init : OptionalStatement) (x : Statement × Cursor)
      → token ForKeyword from start → (SpellsOptionalStatement text init ⨾ semicolon) start place
      → InitFitsHeader init → optional_statement_depth init ≤ below
      → read_clauses text r below from init place ≡ Some x → Reads text below from x
  unfolding read_clauses SpellsStatementForm below_statement
  read_clauses-sound from start place init x word i f d e =
      option_and_then_some _ (read_expression_unless text r Semicolon true place) x e λ c c-read c-then.
      option_and_then_some _ (take Semicolon c.1) x c-then λ end end-read end-then.
      option_and_then_some _ (read_post text r below (behind_semicolon c.1)) x end-then λ post post-read post-then.
      let h = read_expression_unless-sound text r below sound Semicolon true place c c-read in
      let at = behind_semicolon c.1 in
      let p : IsReadPart text below at post.0 post.1 = elim (two_ways (stands LeftBrace at) _ _ (Some post) post-read) [
        | inl k ↦ post-sound at post k.1
        | inr k ↦ (
            option_and_then_some _ (read_simple text r below true at) post k.1 λ s s-read s-then.
            option_and_then_some _ (as_part text r below s.0) post s-then λ part part-read part-then.
            given (λ (x : OptionalStatement × Cursor). IsReadPart text below at x.0 x.1) _ post part-then
            (read_part-sound text r below at s.1 s.0 part
            (read_simple-sound text r below sound true at s s-read) part-read)
            )
      ] in
      let second = h.2 in
      let third = p.shallow in
      let header : (SpellsOptionalStatement text init ⨾ semicolon ⨾ SpellsOptional text as_expression c.0 ⨾ semicolon
      ⨾ SpellsOptionalStatement text post.0) start post.1 = (
        i.0,
        i.1,
        (
          place,
          i.2,
          (
            c.1,
            h.0,
            (at, inl (behind_semicolon-sound c.1 (take-stands Semicolon c.1 end end-read)), p.spelled),
          ),
        ),
      ) in
      read_loop-sound from post.1 (for_statement init c.0 post.0 true) x
      (λ ss braces to b shallow. ((f, (h.1, (p.fits, (start, word, (post.1, header, b))))), tt, omega arith))
      post-then

  -- what follows the word `range`
  read_range-sound : (from place : Cursor) (form : Expression → Statements → Span → StatementForm)
      (x : Statement × Cursor)
      → ((e : Expression) (ss : Statements) (braces : Span) (at to : Cursor) → IsCondition text below
      (behind place) e at → block braces (SpellsStatements text ss) at to → statements_depth ss ≤ below
      → SpellsStatementForm text (form e ss braces) from to × IsKept (form e ss braces)
      × (below_statement (form e ss braces) ≤ below))
      → read_range text r below from form place ≡ Some x → Reads text below from x
  unfolding read_range
  read_range-sound from place form x f e =
      option_and_then_some _ (r.read_expression true 1 (behind place)) x e λ operand operand-read operand-then.
      let h = sound.expression true 1 (behind place) operand.1 operand.0 operand-read in
      let c : IsCondition text below (behind place) operand.0 operand.1 = record { spelled = h.0; fits = h.2; shallow = h.3 } in
      read_loop-sound from operand.1 (form operand.0) x
      (λ ss braces to b shallow. f operand.0 ss braces operand.1 to c b shallow) operand-then

  read_for_after-sound : (from start place : Cursor) (es : Expressions) (x : Statement × Cursor)
      → token ForKeyword from start → SpellsExpressions text as_expression es start place → FitHeader es
      → expressions_depth es ≤ below → read_for_after text r below from start es place ≡ Some x
      → Reads text below from x
  unfolding read_for_after SpellsStatementForm below_statement SpellsOptional SpellsOptionalStatement optional_depth optional_statement_depth
  read_for_after-sound from start place es x word h f d e =
      elim (two_ways (stands Define place && stands RangeKeyword (behind place)) _ _ (Some x) e) [
        | inl c ↦ (
            let signs = and_parts (stands Define place) (stands RangeKeyword (behind place)) c.0 in
            option_and_then_some _ (as_identifiers es) x c.1 λ ns ns-read ns-then.
            let names = as_identifiers-sound text es ns start place ns-read h in
            read_range-sound from (behind place) (range_definition ns) x
            (λ e ss braces at to k b shallow.
            let deep = k.shallow in (
              (
                k.fits,
                (
                  start,
                  word,
                  (
                    place,
                    names,
                    (
                      behind place,
                      stands-sound Define place signs.0,
                      (behind (behind place), stands-sound RangeKeyword (behind place) signs.1, (at, k.spelled, b)),
                    ),
                  ),
                ),
              ),
              tt,
              omega arith,
            ))
            ns-then
            )
        | inr c ↦ elim (two_ways (stands Assign place && stands RangeKeyword (behind place)) _ _ (Some x) c.1) [
          | inl k ↦ (
              let signs = and_parts (stands Assign place) (stands RangeKeyword (behind place)) k.0 in
              read_range-sound from (behind place) (range_assignment es) x
              (λ e ss braces at to k b shallow.
              let deep = k.shallow in (
                (
                  f,
                  (
                    k.fits,
                    (
                      start,
                      word,
                      (
                        behind place,
                        range-left text es start place h signs.0,
                        (behind (behind place), stands-sound RangeKeyword (behind place) signs.1, (at, k.spelled, b)),
                      ),
                    ),
                  ),
                ),
                tt,
                omega arith,
              ))
              k.1
              )
          | inr k ↦ (
              option_and_then_some _ (read_simple_after text r below true start es place) x k.1 λ s s-read s-then.
              let simple = read_simple_after-sound text r below sound true start place es s h f d s-read in
              elim (two_ways (stands Semicolon s.1) _ _ (Some x) s-then) [
                | inl m ↦ (
                    option_and_then_some _ (as_part text r below s.0) x m.1 λ part part-read part-then.
                    let p = read_part-sound text r below start s.1 s.0 part simple part-read in
                    read_clauses-sound from start (behind_semicolon s.1) part x word
                    (s.1, p.spelled, inl (behind_semicolon-sound s.1 m.0)) p.fits p.shallow part-then
                    )
                | inr m ↦ (
                    option_and_then_some _ (statement_expression text r below s.0) x m.1 λ c c-read c-then.
                    let k = statement_expression-sound text r below s.0 c start s.1 simple c-read in
                    let deep = k.shallow in
                    read_loop-sound from s.1 (for_statement missing_statement
                    (present_expression c) missing_statement false) x
                    (λ ss braces to b shallow. (
                      (
                        tt,
                        (k.fits, (tt, (start, word, ((s.1, (tt, (tt, k.spelled)), b))))),
                      ),
                      tt,
                      omega arith,
                    ))
                    c-then
                    )
              ]
              )
        ]
      ]

  pub read_for-sound : (from : Cursor) (x : Statement × Cursor)
      → stands ForKeyword from ≡ true → read_for text r below from ≡ Some x
      → IsReadStatement text (suc below) from x.0 x.1
  unfolding read_for SpellsStatementForm below_statement SpellsOptional SpellsOptionalStatement optional_depth optional_statement_depth expressions_depth
  read_for-sound from x k e =
      let start = behind from in
      let word = stands-sound ForKeyword from k in
      elim (two_ways (stands LeftBrace start) _ _ (Some x) e) [
        | inl c ↦ read_loop-sound from start
            (for_statement missing_statement missing_expression missing_statement false) x
            (λ ss braces to b shallow. ((tt, (tt, (tt, (start, word, (start, (tt, (tt, refl)), b))))), tt, omega arith))
            c.1
        | inr c ↦ elim (two_ways (stands RangeKeyword start) _ _ (Some x) c.1) [
          | inl n ↦ read_range-sound from start (range_assignment no_expression) x
              (λ e ss braces at to k b shallow.
              let deep = k.shallow in (
                (
                  tt,
                  (
                    k.fits,
                    (
                      start,
                      word,
                      (
                        start,
                        refl,
                        (behind start, stands-sound RangeKeyword start n.0, (at, k.spelled, b)),
                      ),
                    ),
                  ),
                ),
                tt,
                omega arith,
              ))
              n.1
          | inr n ↦ elim (two_ways (stands Semicolon start) _ _ (Some x) n.1) [
            | inl m ↦ read_clauses-sound from start (behind_semicolon start) missing_statement x word
                (start, refl, inl (behind_semicolon-sound start m.0)) tt (omega arith) m.1
            | inr m ↦ (
                option_and_then_some _ (read_expressions text r true start) x m.1 λ es es-read es-then.
                let h = read_expressions-sound text r below sound true start es es-read in
                read_for_after-sound from start es.1 es.0 x word h.0 h.1 h.2 es-then
                )
          ]
        ]
      ]
