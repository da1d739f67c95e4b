-- The reader gives each header, and each `if` with its `else`, that the tokens spell.
use Rattle.std.proofs.Common.{◌≡◌, ℕ, ◌≤◌, Bool, true, false, List, Option, Some, None, refl, ap, ◌∙◌, arith}
use Rattle.std.proofs.lemmas.Bool.{le-leb}
use Rattle.lexer.specs.Spelling.{same_kind}
use Rattle.lexer.specs.declared.token.TokenKind.{TokenKind}
use Rattle.lexer.specs.declared.token.TokenKind.TheVariants.{ElseKeyword, IfKeyword, Semicolon}
use Rattle.tree.specs.declared.span.Span.{Span}
use Rattle.tree.specs.Syntax.{Expression, Statements, Statement, statement_node, StatementForm, expression_statement, block_statement, if_statement, OptionalStatement, missing_statement, present_statement}
use Rattle.tree.specs.Depth.{expression_depth, statement_depth, below_statement, optional_statement_depth, else_depth, else_branch_depth}
use Rattle.meaning.specs.Cursor.{GoText, Cursor, TakesToken, TakesSemicolon, is_next, is_closing, start_at}
use Rattle.meaning.specs.WellFormed.{FitsHeader, StatementFitsHeader, InitFitsHeader}
use Rattle.meaning.specs.Grammar.{as_expression, initial, SpellsExpression, SpellsStatement, SpellsStatementForm, SpellsOptionalStatement, SpellsElse}
use Rattle.tree_reader.specs.Reading.{stands, span_between}
use Rattle.tree_reader.specs.Reader.{Readers, Header, is_end, as_part, read_block, read_simple, read_header, read_condition, read_else, read_if}
use Rattle.tree_reader.specs.Claims.{AreComplete}
use Rattle.tree_reader.proofs.Taken.{step, when_true, when_false, only_true, behind_gives, stands_gives, stands_other, stands_not, semicolon_stands, next_semicolon, behind_semicolon_gives, span_is}
use Rattle.tree_reader.proofs.CompleteLists.{read_block-complete}
use Rattle.tree_reader.proofs.Begins.{begins_expression, expression_begins, level_high}
use Rattle.tree_reader.proofs.CompleteStatementsSimple.{stops, follows_simple, Ends, cannot_go_on, statement_is, read_simple-complete}
use Rattle.tree_reader.proofs.CompleteStatementsBegins.{fits_header, ends_before, open_before, semicolon_there, simple-begins}

pub ends_semicolon : (header : Bool) {from to : Cursor} → TakesSemicolon from to → Ends header from
ends_semicolon header {from = from} t =
    record { stop = cannot_go_on header 1 from (next_semicolon t (stops header)); next = next_semicolon t follows_simple }

abbrev pub header_of : OptionalStatement → Bool → Option Statement → Header
header_of init has_semicolon first = record { init = init; has_semicolon = has_semicolon; first = first }

-- an expression that was read as a statement
abbrev pub as_statement : Expression → Cursor → Cursor → Statement
as_statement e from to = statement_node (expression_statement e) (span_between from to)

module _ (text : GoText) (r : Readers) (below : ℕ) (complete : AreComplete text below r) where
  pub as_part-gives : (s : Statement) → statement_depth s ≤ below → as_part text r below s ≡ Some (present_statement s)
  as_part-gives s d = only_true (le-leb (statement_depth s) below d) refl

  -- a statement of a header and its semicolon
  header-statement : (form : StatementForm) (span : Span) (from between to : Cursor) → SpellsStatement text (statement_node form span) from between → StatementFitsHeader form → statement_depth (statement_node form span) ≤ below → TakesSemicolon between to → read_header text r below from ≡ Some (header_of (present_statement (statement_node form span)) true None, to)
  unfolding read_header SpellsStatement statement_depth
  header-statement form span from between to s h d t =
      let fits = fits_header form h in
      let begins = simple-begins text true form from between fits s.0 in
      let read = read_simple-complete text r below complete true form span from between s fits (omega arith) (ends_semicolon true t) in
      when_false _ (stands_not begins_expression Semicolon from refl begins) (step _ read (when_true _ (semicolon_stands t) (step _ (as_part-gives (statement_node form span) d) (ap (λ p. Some (header_of (present_statement (statement_node form span)) true None, p)) (behind_semicolon_gives t)))))

  -- what a header begins with, with its semicolon
  pub header-initial : (init : OptionalStatement) (from to : Cursor) → initial init true (SpellsOptionalStatement text init) from to → InitFitsHeader init → optional_statement_depth init ≤ below → is_next is_closing to ≡ false → read_header text r below from ≡ Some (header_of init true None, to)
  unfolding read_header SpellsOptionalStatement optional_statement_depth
  header-initial missing_statement from to s h d e =
      let t = semicolon_there s e in
      when_true _ (semicolon_stands t) (ap (λ p. Some (header_of missing_statement true None, p)) (behind_semicolon_gives t))
  header-initial (present_statement (statement_node form span)) from to s h d e =
      header-statement form span from s.0 to s.1 h d (semicolon_there s.2 e)

  -- a header with no semicolon
  pub header-alone : (s : Statement) (from to : Cursor) → read_simple text r below true from ≡ Some (s, to) → is_next begins_expression from ≡ true → stands Semicolon to ≡ false → read_header text r below from ≡ Some (header_of missing_statement false (Some s), to)
  unfolding read_header
  header-alone s from to read begins e =
      when_false _ (stands_not begins_expression Semicolon from refl begins) (step _ read (when_false _ e refl))

  pub read_simple-expression : (e : Expression) (from to : Cursor) → SpellsExpression text as_expression e from to → FitsHeader e → expression_depth e ≤ below → Ends true to → read_simple text r below true from ≡ Some (as_statement e from to, to)
  unfolding SpellsStatement SpellsStatementForm below_statement
  read_simple-expression e from to s h d end =
      read_simple-complete text r below complete true (expression_statement e) (span_between from to) from to (s, refl, refl) h d end

  record ReadsHeader (init : OptionalStatement) (has_semicolon : Bool) (c : Expression) (from to : Cursor) : Type 0 where
    first : Option Statement
    place : Cursor
    header : read_header text r below from ≡ Some (header_of init has_semicolon first, place)
    condition : read_condition text r below first place ≡ Some (c, to)

  header-complete : (init : OptionalStatement) (has_semicolon : Bool) (c : Expression) (from between to : Cursor) → initial init has_semicolon (SpellsOptionalStatement text init) from between → SpellsExpression text as_expression c between to → InitFitsHeader init → FitsHeader c → optional_statement_depth init ≤ below → expression_depth c ≤ below → Ends true to → stands Semicolon to ≡ false → ReadsHeader init has_semicolon c from to
  unfolding read_condition
  header-complete missing_statement false c from between to p s h k d f end e =
      let read = read_simple-expression c between to s k f end in
      record {
        first = Some (as_statement c between to);
        place = to;
        header = ap (read_header text r below) p ∙ header-alone (as_statement c between to) between to read (expression_begins text c between to s) e;
        condition = refl;
      }
  header-complete (present_statement x) false c from between to p s h k d f end e = absurd p
  header-complete init true c from between to p s h k d f end e = record {
    first = None;
    place = between;
    header = header-initial init from between p h d (open_before between (expression_begins text c between to s));
    condition = complete.expression true 1 between to c s (level_high c) k f end.stop;
  }

  else-complete : (otherwise : OptionalStatement) (from to : Cursor) → SpellsElse text otherwise from to → else_depth otherwise ≤ below → is_next is_end to ≡ true → read_else text r below from ≡ Some (otherwise, to)
  unfolding read_else SpellsElse SpellsStatement SpellsStatementForm else_depth else_branch_depth below_statement statement_depth same_kind
  else-complete missing_statement from to s d e =
      when_false _ (ap (stands ElseKeyword) s ∙ stands_not is_end ElseKeyword to refl e) (λ i. Some (missing_statement, s i))
  else-complete (present_statement (statement_node (if_statement init has_semicolon c ss braces otherwise) span)) from to s d e =
      let node : Statement = statement_node (if_statement init has_semicolon c ss braces otherwise) span in
      when_true _ (stands_gives s.1.1) (rw (behind_gives s.1.1) (when_true _ (stands_gives s.1.2.0.1.1.1) (step _ (complete.statement s.1.0 to node s.1.2 tt d e) refl)))
  else-complete (present_statement (statement_node (block_statement ss braces) span)) from to s d e =
      when_true _ (stands_gives s.1.1) (rw (behind_gives s.1.1) (when_false _ (stands_other s.1.2.0.0.1 IfKeyword refl) (step _ (read_block-complete text r below complete ss braces s.1.0 to s.1.2.0 d) (λ i. Some (present_statement (statement_node (block_statement ss braces) (span_is span s.1.0 to s.1.2.1 s.1.2.2 i)), to)))))
  else-complete (present_statement (statement_node _ span)) from to s d e = absurd s.0

  -- the parts of an `if`, one after the other
  if_after : {kind : TokenKind} (init : OptionalStatement) (has_semicolon : Bool) (c : Expression) (ss : Statements) (braces : Span) (otherwise : OptionalStatement) (span : Span) (from start between after to : Cursor) → TakesToken kind from start → ReadsHeader init has_semicolon c start between → read_block text r between ≡ Some (record { statements = ss; braces = braces }, after) → read_else text r below after ≡ Some (otherwise, to) → span.start ≡ start_at from → span.end ≡ to.end → read_if text r below from ≡ Some (statement_node (if_statement init has_semicolon c ss braces otherwise) span, to)
  unfolding read_if
  if_after init has_semicolon c ss braces otherwise span from start between after to t header body rest p q =
      step _ (ap (read_header text r below) (behind_gives t) ∙ header.header) (step _ header.condition (step _ body (step _ rest (ap Some (statement_is (if_statement init has_semicolon c ss braces otherwise) span from to p q)))))

  pub if-complete : (init : OptionalStatement) (has_semicolon : Bool) (c : Expression) (ss : Statements) (braces : Span) (otherwise : OptionalStatement) (span : Span) (from to : Cursor) → SpellsStatement text (statement_node (if_statement init has_semicolon c ss braces otherwise) span) from to → below_statement (if_statement init has_semicolon c ss braces otherwise) ≤ below → is_next is_end to ≡ true → read_if text r below from ≡ Some (statement_node (if_statement init has_semicolon c ss braces otherwise) span, to)
  unfolding SpellsStatement SpellsStatementForm below_statement same_kind
  if-complete init has_semicolon c ss braces otherwise span from to s d e =
      let word = s.0.1.1 in
      let after = word.2.2 in
      let header = header-complete init has_semicolon c word.0 word.2.0 after.0 word.2.1 after.1 s.0.0 s.0.1.0 (omega arith) (omega arith) (ends_before true after.2.1.0.1 refl refl) (stands_other after.2.1.0.1 Semicolon refl) in
      let body = read_block-complete text r below complete ss braces after.0 after.2.0 after.2.1 (omega arith) in
      let rest = else-complete otherwise after.2.0 to after.2.2 (omega arith) e in
      if_after init has_semicolon c ss braces otherwise span from word.0 after.0 after.2.0 to word.1 header body rest s.1 s.2
