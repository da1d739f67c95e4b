-- One clause of a `switch` or a `select`, before the clauses that follow it.
use Rattle.std.specs.Prelude.{ℕ, List, Some}
use Rattle.lexer.specs.declared.token.TokenKind.TheVariants.{LeftBrace, RightBrace, Colon}
use Rattle.tree.specs.Syntax.{CaseClauses, case_and, CommunicationClauses, communication_and}
use Rattle.meaning.specs.Cursor.{Cursor, GoText}
use Rattle.tree_reader.specs.Reader.{Readers, read_statements, read_case_head, read_cases, read_communication_head}
use Rattle.tree_reader.specs.Reading.{Read, ◌>>=◌, take, steps, span_between}

module _ (text : GoText) (r : Readers) (below : ℕ) where
  abbrev pub read_case_clause : Cursor → Read (CaseClauses → CaseClauses)
  read_case_clause place = do
    es ← read_case_head text r below place
    inner ← take Colon es.1
    ss ← read_statements text r (steps inner) inner
    Some (case_and es.0 ss.0 (span_between place ss.1), ss.1)

  abbrev pub read_communication_clause : Cursor → Read (CommunicationClauses → CommunicationClauses)
  read_communication_clause place = do
    c ← read_communication_head text r below place
    inner ← take Colon c.1
    ss ← read_statements text r (steps inner) inner
    Some (communication_and c.0 ss.0 (span_between place ss.1), ss.1)

  -- the clauses of a `switch` in braces
  abbrev pub read_braced_cases : Cursor → Read CaseClauses
  read_braced_cases place = do
    inner ← take LeftBrace place
    cs ← read_cases text r below (steps inner) inner
    end ← take RightBrace cs.1
    Some (cs.0, end)
