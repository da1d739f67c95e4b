-- What a statement is that begins with a token, but for declarations, and how it is read.
use Rattle.std.specs.Prelude.{ℕ, false, if◌then◌else◌, List, [], ◌∷◌, Some}
use Rattle.lexer.specs.declared.token.Token.{Token}
use Rattle.lexer.specs.declared.token.TokenKind.{TokenKind}
use Rattle.lexer.specs.declared.token.TokenKind.TheVariants.{Identifier, BreakKeyword, ContinueKeyword, DeferKeyword, FallthroughKeyword, ForKeyword, GoKeyword, GotoKeyword, IfKeyword, ReturnKeyword, SelectKeyword, SwitchKeyword, LeftBrace, Colon}
use Rattle.tree.specs.declared.edition.Edition.{Edition}
use Rattle.tree.specs.declared.edition.Edition.TheVariants.{First}
use Rattle.tree.specs.Syntax.{Statement, go_statement, defer_statement, break_statement, continue_statement, fallthrough_statement}
use Rattle.meaning.specs.Cursor.{Cursor, GoText}
use Rattle.tree_reader.specs.Reader.{Readers, read_simple, read_if, read_for, read_switch, read_select, read_labeled, read_block_statement, read_return, read_started, read_branch, read_goto}
use Rattle.tree_reader.specs.Reading.{Read, stands, behind, spanned_statement}
use Rattle.parser_statements.specs.declared.statements.Start.{Start}
use Rattle.parser_statements.specs.declared.statements.Start.TheVariants.{Name, Block, If, For, Switch, Select, Return, Go, Defer, Break, Continue, Goto, Fallthrough, Simple}

abbrev pub start_of : TokenKind → Start
start_of Identifier = Name
start_of LeftBrace = Block
start_of IfKeyword = If
start_of ForKeyword = For
start_of SwitchKeyword = Switch
start_of SelectKeyword = Select
start_of ReturnKeyword = Return
start_of GoKeyword = Go
start_of DeferKeyword = Defer
start_of BreakKeyword = Break
start_of ContinueKeyword = Continue
start_of GotoKeyword = Goto
start_of FallthroughKeyword = Fallthrough
start_of kind = Simple

-- the first edition has neither `goto` nor `fallthrough`
abbrev pub start_in : Edition → Start → Start
start_in First Goto = Simple
start_in First Fallthrough = Simple
start_in edition start = start

abbrev pub first_start : Edition → List Token → Start
first_start edition [] = Simple
first_start edition (t ∷ rest) = start_in edition (start_of t.kind)

abbrev pub next_start : Edition → Cursor → Start
next_start edition place = first_start edition place.left

module _ (text : GoText) (r : Readers) (below : ℕ) where
  abbrev pub read_named : Cursor → Read Statement
  read_named place =
      if stands Colon (behind place) then read_labeled text r below place else read_simple text r below false place

  abbrev pub read_start : Start → Cursor → Read Statement
  read_start Name place = read_named place
  read_start Block place = read_block_statement text r below place
  read_start If place = read_if text r below place
  read_start For place = read_for text r below place
  read_start Switch place = read_switch text r below place
  read_start Select place = read_select text r below place
  read_start Return place = read_return text r below place
  read_start Go place = read_started text r below go_statement place
  read_start Defer place = read_started text r below defer_statement place
  read_start Break place = read_branch text r below break_statement place
  read_start Continue place = read_branch text r below continue_statement place
  read_start Goto place = read_goto text r below place
  read_start Fallthrough place = Some (spanned_statement place fallthrough_statement (behind place))
  read_start Simple place = read_simple text r below false place
