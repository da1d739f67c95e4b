-- The reader gives each statement that the tokens spell.
use Rattle.std.proofs.Common.{◌≡◌, ℕ, suc, ◌≤◌, Bool, true, false, List, Option, Some, None, refl, sym, ap, ◌∙◌, arith}
use Rattle.std.specs.Prelude.{if◌then◌else◌, ◌&&◌}
use Rattle.std.proofs.lemmas.Bool.{le-leb, and_from}
use Rattle.lexer.specs.Spelling.{same_kind}
use Rattle.lexer.specs.declared.token.TokenKind.{TokenKind}
use Rattle.lexer.specs.declared.token.TokenKind.TheVariants.{Identifier as identifier_kind, BreakKeyword, ContinueKeyword, DeferKeyword, ForKeyword, GoKeyword, IfKeyword, ReturnKeyword, SelectKeyword, SwitchKeyword, LeftBrace, Comma, Colon, GotoKeyword, FallthroughKeyword}
use Rattle.tree.specs.declared.span.Span.{Span}
use Rattle.tree.specs.declared.operator.DeclKeyword.{DeclKeyword}
use Rattle.tree.specs.declared.operator.DeclKeyword.TheVariants.{Const, Var, «Type» as type_keyword}
use Rattle.tree.specs.Syntax.{Identifier, Expression, expression_node, call_expression, Expressions, no_expression, expression_and, Statements, Statement, statement_node, StatementForm, empty_statement, declaration_statement, labeled_statement, expression_statement, send_statement, increment_statement, decrement_statement, assignment, operator_assignment, define_statement, go_statement, defer_statement, return_statement, break_statement, continue_statement, block_statement, if_statement, for_statement, range_assignment, range_definition, switch_statement, type_switch_statement, select_statement, Declaration, declaration_of, Specs, goto_statement, fallthrough_statement}
use Rattle.tree.specs.Depth.{expression_depth, expressions_depth, statements_depth, statement_depth, below_statement, declaration_depth, specs_depth}
use Rattle.meaning.specs.Cursor.{GoText, Cursor, TakesToken, is_next, optional_identifier, start_at, identifier}
use Rattle.meaning.specs.OperatorTokens.{keyword_token}
use Rattle.meaning.specs.WellFormed.{level, primary_level, is_call, IsKept}
use Rattle.meaning.specs.Grammar.{as_expression, block, form_of, SpellsExpression, SpellsStatements, SpellsStatement, SpellsStatementForm, SpellsDeclaration, IsSecond}
use Rattle.tree_reader.specs.Reading.{stands, spanned_statement, read_optional_identifier, behind, read_identifier}
use Rattle.tree_reader.specs.Reader.{Readers, of_next, declaration_keyword, is_end, read_after_label, read_labeled, read_started, read_return, read_branch, read_block_statement, read_if, read_for, read_switch, read_select, read_simple, read_other_statement, read_statement_of, is_second, read_goto}
use Rattle.tree_reader.specs.Claims.{AreComplete}
use Rattle.tree_reader.proofs.Taken.{step, when_true, when_false, only_true, behind_gives, of_next_gives, stands_gives, stands_other, stands_not, read_identifier-complete, read_optional_identifier-complete, and_true, and_not}
use Rattle.tree_reader.proofs.CompleteLists.{read_expressions-complete, read_block-complete}
use Rattle.tree_reader.proofs.CompleteDeclarations.{read_declaration-complete}
use Rattle.tree_reader.proofs.Begins.{begins_expression}
use Rattle.tree_reader.proofs.CompleteStatementsLabels.{labels, no_label, no_declaration}
use Rattle.tree_reader.proofs.CompleteStatementsSimple.{IsSimpleIn, statement_is, expressions-begin, read_simple-complete}
use Rattle.tree_reader.proofs.CompleteStatementsBegins.{ends, end_stop, no_end_before, simple-begins, simple-label, statement-begins}
use Rattle.tree_reader.proofs.CompleteStatementsHeaders.{if-complete}
use Rattle.tree_reader.proofs.CompleteStatementsLoops.{for-complete, range_assignment-complete, range_definition-complete}
use Rattle.tree_reader.proofs.CompleteStatementsClauses.{switch-complete, type_switch-complete, select-complete}
use Rattle.tree_reader.proofs.CompleteIndexes.{second_true}

-- A call is a primary expression.
call-level : (e : Expression) → is_call e ≡ true → primary_level ≤ level e
call-level (expression_node (call_expression e es ellipsis) span) h = omega arith
call-level (expression_node _ span) h = let both : false ≡ true = h in cc

pub keyword_given : (keyword : DeclKeyword) → declaration_keyword (keyword_token keyword) ≡ Some keyword
keyword_given Const = refl
keyword_given Var = refl
keyword_given type_keyword = refl

module _ (text : GoText) (r : Readers) (below : ℕ) (complete : AreComplete text below r) where
  after_label-complete : (s : Statement) (from to : Cursor) → SpellsStatement text s from to → statement_depth s ≤ below → is_next is_end to ≡ true → read_after_label text r below from ≡ Some (s, to)
  unfolding SpellsStatement SpellsStatementForm statement_depth
  after_label-complete (statement_node empty_statement span) from to s d e =
      let stop : from.end ≡ span.end = ap (λ place. place.end) s.0 ∙ sym s.2 in
      when_true _ (ap (is_next is_end) s.0 ∙ e) (only_true (le-leb 1 below (omega arith)) (λ i. Some (statement_node empty_statement record { start = sym s.1 i; end = stop i }, s.0 i)))
  after_label-complete (statement_node form span) from to s d e =
      when_false _ (statement-begins text (statement_node form span) from to tt s) (complete.statement from to (statement_node form span) s tt d e)

  labeled-complete : (n : Identifier) (x : Statement) (span : Span) (from to : Cursor) → SpellsStatement text (statement_node (labeled_statement n x) span) from to → statement_depth x ≤ below → is_next is_end to ≡ true → read_labeled text r below from ≡ Some (statement_node (labeled_statement n x) span, to)
  unfolding read_labeled SpellsStatement SpellsStatementForm
  labeled-complete n x span from to s d e =
      let label = s.0 in
      let colon = label.2 in
      let more = ap (read_after_label text r below) (behind_gives colon.1) ∙ after_label-complete x colon.0 to colon.2 d e in
      step _ (read_identifier-complete text n from label.0 label.1) (step _ more (ap Some (statement_is (labeled_statement n x) span from to s.1 s.2)))

  started-complete : {kind : TokenKind} (form : Expression → StatementForm) (x : Expression) (span : Span) (from start to : Cursor) → TakesToken kind from start → SpellsExpression text as_expression x start to → is_call x ≡ true → expression_depth x ≤ below → is_next is_end to ≡ true → span.start ≡ start_at from → span.end ≡ to.end → read_started text r below form from ≡ Some (statement_node (form x) span, to)
  unfolding read_started
  started-complete form x span from start to t s h d e p q =
      let read = complete.expression false primary_level start to x s (call-level x h) tt d (end_stop false primary_level to e) in
      step _ (ap (r.read_expression false primary_level) (behind_gives t) ∙ read) (only_true h (ap Some (statement_is (form x) span from to p q)))

  return-complete : (es : Expressions) (span : Span) (from to : Cursor) → SpellsStatement text (statement_node (return_statement es) span) from to → expressions_depth es ≤ below → is_next is_end to ≡ true → read_return text r below from ≡ Some (statement_node (return_statement es) span, to)
  unfolding read_return SpellsStatement SpellsStatementForm
  return-complete no_expression span from to s d e =
      rw (behind_gives s.0.1) (when_true _ (ap (is_next is_end) s.0.2 ∙ e) (ap (λ place. Some (spanned_statement from (return_statement no_expression) place)) s.0.2 ∙ ap Some (statement_is (return_statement no_expression) span from to s.1 s.2)))
  return-complete (expression_and x xs) span from to s d e =
      let end = ends false to e in
      let es : Expressions = expression_and x xs in
      let read = read_expressions-complete text r below complete false es s.0.0 to s.0.2 tt d end.stop (stands_not is_end Comma to refl e) in
      rw (behind_gives s.0.1) (when_false _ (no_end_before s.0.0 (expressions-begin text es s.0.0 to s.0.2)) (step _ read (ap Some (statement_is (return_statement es) span from to s.1 s.2))))

  branch-complete : {kind : TokenKind} (form : Option Identifier → StatementForm) (n : Option Identifier) (span : Span) (from start to : Cursor) → TakesToken kind from start → optional_identifier text n start to → is_next is_end to ≡ true → span.start ≡ start_at from → span.end ≡ to.end → read_branch text r below form from ≡ Some (statement_node (form n) span, to)
  unfolding read_branch
  branch-complete form n span from start to t s e p q =
      let read = read_optional_identifier-complete text n start to s (stands_not is_end identifier_kind to refl e) in
      step _ (ap (read_optional_identifier text) (behind_gives t) ∙ read) (ap Some (statement_is (form n) span from to p q))

  block-complete : (ss : Statements) (braces span : Span) (from to : Cursor) → block braces (SpellsStatements text ss) from to → statements_depth ss ≤ below → span.start ≡ start_at from → span.end ≡ to.end → read_block_statement text r below from ≡ Some (statement_node (block_statement ss braces) span, to)
  unfolding read_block_statement
  block-complete ss braces span from to s d p q =
      step _ (read_block-complete text r below complete ss braces from to s d) (ap Some (statement_is (block_statement ss braces) span from to p q))

  -- How a statement is read that begins with no word for a declaration.
  record ReadsOther (from : Cursor) (s : Statement) (to : Cursor) : Type 0 where
    none : of_next declaration_keyword from ≡ None
    read : read_other_statement text r below from ≡ Some (s, to)

  simple-other : (form : StatementForm) (span : Span) (from to : Cursor) → SpellsStatement text (statement_node form span) from to → IsSimpleIn false form → below_statement form ≤ below → is_next is_end to ≡ true → ReadsOther from (statement_node form span) to
  unfolding read_other_statement SpellsStatement
  simple-other form span from to s h d e =
      let begins = simple-begins text false form from to h s.0 in
      let label : labels from ≡ false = simple-label text false form from to h s.0 (stands_not is_end Colon to refl e) in
      let read = read_simple-complete text r below complete false form span from to s h d (ends false to e) in
      record {
        none = no_declaration from begins;
        read = when_false _ label (when_false _ (stands_not begins_expression LeftBrace from refl begins) (when_false _ (stands_not begins_expression IfKeyword from refl begins) (when_false _ (stands_not begins_expression ForKeyword from refl begins) (when_false _ (stands_not begins_expression SwitchKeyword from refl begins) (when_false _ (stands_not begins_expression SelectKeyword from refl begins) (when_false _ (stands_not begins_expression ReturnKeyword from refl begins) (when_false _ (stands_not begins_expression GoKeyword from refl begins) (when_false _ (stands_not begins_expression DeferKeyword from refl begins) (when_false _ (stands_not begins_expression BreakKeyword from refl begins) (when_false _ (stands_not begins_expression ContinueKeyword from refl begins) (when_false _ (and_not (is_second text.edition) (stands_not begins_expression GotoKeyword from refl begins)) (when_false _ (and_not (is_second text.edition) (stands_not begins_expression FallthroughKeyword from refl begins)) read))))))))))));
      }

  block-other : {from after to : Cursor} (s : Statement) → TakesToken LeftBrace from after → read_block_statement text r below from ≡ Some (s, to) → ReadsOther from s to
  unfolding read_other_statement same_kind
  block-other s t read = record {
    none = of_next_gives t declaration_keyword;
    read = when_false _ (no_label t refl) (when_true _ (stands_gives t) read);
  }

  if-other : {from after to : Cursor} (s : Statement) → TakesToken IfKeyword from after → read_if text r below from ≡ Some (s, to) → ReadsOther from s to
  unfolding read_other_statement same_kind
  if-other s t read = record {
    none = of_next_gives t declaration_keyword;
    read = when_false _ (no_label t refl) (when_false _ (stands_other t LeftBrace refl) (when_true _ (stands_gives t) read));
  }

  for-other : {from after to : Cursor} (s : Statement) → TakesToken ForKeyword from after → read_for text r below from ≡ Some (s, to) → ReadsOther from s to
  unfolding read_other_statement same_kind
  for-other s t read = record {
    none = of_next_gives t declaration_keyword;
    read = when_false _ (no_label t refl) (when_false _ (stands_other t LeftBrace refl) (when_false _ (stands_other t IfKeyword refl) (when_true _ (stands_gives t) read)));
  }

  switch-other : {from after to : Cursor} (s : Statement) → TakesToken SwitchKeyword from after → read_switch text r below from ≡ Some (s, to) → ReadsOther from s to
  unfolding read_other_statement same_kind
  switch-other s t read = record {
    none = of_next_gives t declaration_keyword;
    read = when_false _ (no_label t refl) (when_false _ (stands_other t LeftBrace refl) (when_false _ (stands_other t IfKeyword refl) (when_false _ (stands_other t ForKeyword refl) (when_true _ (stands_gives t) read))));
  }

  select-other : {from after to : Cursor} (s : Statement) → TakesToken SelectKeyword from after → read_select text r below from ≡ Some (s, to) → ReadsOther from s to
  unfolding read_other_statement same_kind
  select-other s t read = record {
    none = of_next_gives t declaration_keyword;
    read = when_false _ (no_label t refl) (when_false _ (stands_other t LeftBrace refl) (when_false _ (stands_other t IfKeyword refl) (when_false _ (stands_other t ForKeyword refl) (when_false _ (stands_other t SwitchKeyword refl) (when_true _ (stands_gives t) read)))));
  }

  -- a keyword that begins neither a declaration nor a block, nor a statement with one
  record IsShort (kind : TokenKind) : Type 0 where
    declares : declaration_keyword kind ≡ None
    no_name : same_kind kind identifier_kind ≡ false
    no_brace : same_kind kind LeftBrace ≡ false
    no_if : same_kind kind IfKeyword ≡ false
    no_for : same_kind kind ForKeyword ≡ false
    no_switch : same_kind kind SwitchKeyword ≡ false
    no_select : same_kind kind SelectKeyword ≡ false

  short-other : {kind : TokenKind} {from after to : Cursor} (s : Statement) → TakesToken kind from after → IsShort kind → (if stands ReturnKeyword from then read_return text r below from else if stands GoKeyword from then read_started text r below go_statement from else if stands DeferKeyword from then read_started text r below defer_statement from else if stands BreakKeyword from then read_branch text r below break_statement from else if stands ContinueKeyword from then read_branch text r below continue_statement from else if is_second text.edition && stands GotoKeyword from then read_goto text r below from else if is_second text.edition && stands FallthroughKeyword from then Some (spanned_statement from fallthrough_statement (behind from)) else read_simple text r below false from) ≡ Some (s, to) → ReadsOther from s to
  unfolding read_other_statement
  short-other s t h read = record {
    none = of_next_gives t declaration_keyword ∙ h.declares;
    read = when_false _ (no_label t h.no_name) (when_false _ (stands_other t LeftBrace h.no_brace) (when_false _ (stands_other t IfKeyword h.no_if) (when_false _ (stands_other t ForKeyword h.no_for) (when_false _ (stands_other t SwitchKeyword h.no_switch) (when_false _ (stands_other t SelectKeyword h.no_select) read)))));
  }

  return-other : {from after to : Cursor} (s : Statement) → TakesToken ReturnKeyword from after → read_return text r below from ≡ Some (s, to) → ReadsOther from s to
  unfolding same_kind
  return-other s t read =
      short-other s t (record { declares = refl; no_name = refl; no_brace = refl; no_if = refl; no_for = refl; no_switch = refl; no_select = refl }) (when_true _ (stands_gives t) read)

  go-other : {from after to : Cursor} (s : Statement) → TakesToken GoKeyword from after → read_started text r below go_statement from ≡ Some (s, to) → ReadsOther from s to
  unfolding same_kind
  go-other s t read =
      short-other s t (record { declares = refl; no_name = refl; no_brace = refl; no_if = refl; no_for = refl; no_switch = refl; no_select = refl }) (when_false _ (stands_other t ReturnKeyword refl) (when_true _ (stands_gives t) read))

  defer-other : {from after to : Cursor} (s : Statement) → TakesToken DeferKeyword from after → read_started text r below defer_statement from ≡ Some (s, to) → ReadsOther from s to
  unfolding same_kind
  defer-other s t read =
      short-other s t (record { declares = refl; no_name = refl; no_brace = refl; no_if = refl; no_for = refl; no_switch = refl; no_select = refl }) (when_false _ (stands_other t ReturnKeyword refl) (when_false _ (stands_other t GoKeyword refl) (when_true _ (stands_gives t) read)))

  break-other : {from after to : Cursor} (s : Statement) → TakesToken BreakKeyword from after → read_branch text r below break_statement from ≡ Some (s, to) → ReadsOther from s to
  unfolding same_kind
  break-other s t read =
      short-other s t (record { declares = refl; no_name = refl; no_brace = refl; no_if = refl; no_for = refl; no_switch = refl; no_select = refl }) (when_false _ (stands_other t ReturnKeyword refl) (when_false _ (stands_other t GoKeyword refl) (when_false _ (stands_other t DeferKeyword refl) (when_true _ (stands_gives t) read))))

  continue-other : {from after to : Cursor} (s : Statement) → TakesToken ContinueKeyword from after → read_branch text r below continue_statement from ≡ Some (s, to) → ReadsOther from s to
  unfolding same_kind
  continue-other s t read =
      short-other s t (record { declares = refl; no_name = refl; no_brace = refl; no_if = refl; no_for = refl; no_switch = refl; no_select = refl }) (when_false _ (stands_other t ReturnKeyword refl) (when_false _ (stands_other t GoKeyword refl) (when_false _ (stands_other t DeferKeyword refl) (when_false _ (stands_other t BreakKeyword refl) (when_true _ (stands_gives t) read)))))

  goto-other : {from after to : Cursor} (s : Statement) → IsSecond text.edition → TakesToken GotoKeyword from after → read_goto text r below from ≡ Some (s, to) → ReadsOther from s to
  unfolding same_kind
  goto-other s second t read =
      short-other s t (record { declares = refl; no_name = refl; no_brace = refl; no_if = refl; no_for = refl; no_switch = refl; no_select = refl }) (when_false _ (stands_other t ReturnKeyword refl) (when_false _ (stands_other t GoKeyword refl) (when_false _ (stands_other t DeferKeyword refl) (when_false _ (stands_other t BreakKeyword refl) (when_false _ (stands_other t ContinueKeyword refl) (when_true _ (and_true (second_true text.edition second) (stands_gives t)) read))))))

  fallthrough-other : {from to : Cursor} (s : Statement) → IsSecond text.edition → TakesToken FallthroughKeyword from to → spanned_statement from fallthrough_statement (behind from) ≡ (s, to) → ReadsOther from s to
  unfolding same_kind
  fallthrough-other s second t read =
      short-other s t (record { declares = refl; no_name = refl; no_brace = refl; no_if = refl; no_for = refl; no_switch = refl; no_select = refl }) (when_false _ (stands_other t ReturnKeyword refl) (when_false _ (stands_other t GoKeyword refl) (when_false _ (stands_other t DeferKeyword refl) (when_false _ (stands_other t BreakKeyword refl) (when_false _ (stands_other t ContinueKeyword refl) (when_false _ (and_not (is_second text.edition) (stands_other t GotoKeyword refl)) (when_true _ (and_true (second_true text.edition second) (stands_gives t)) (ap Some read))))))))

  goto-complete : (n : Identifier) (span : Span) (from start to : Cursor) → TakesToken GotoKeyword from start → identifier text n start to → span.start ≡ start_at from → span.end ≡ to.end → read_goto text r below from ≡ Some (statement_node (goto_statement n) span, to)
  unfolding read_goto
  goto-complete n span from start to t s p q =
      step _ (ap (read_identifier text) (behind_gives t) ∙ read_identifier-complete text n start to s) (ap Some (statement_is (goto_statement n) span from to p q))

  labeled-other : {from between after to : Cursor} (s : Statement) → TakesToken identifier_kind from between → TakesToken Colon between after → read_labeled text r below from ≡ Some (s, to) → ReadsOther from s to
  unfolding read_other_statement
  labeled-other {from = from} s t colon read = record {
    none = of_next_gives t declaration_keyword;
    read = when_true _ (and_from (stands identifier_kind from) _ (stands_gives t) (ap (stands Colon) (behind_gives t) ∙ stands_gives colon)) read;
  }

  by_other : (from : Cursor) (s : Statement) (to : Cursor) → ReadsOther from s to → read_statement_of text r below from ≡ Some (s, to)
  unfolding read_statement_of
  by_other from s to reads = rw reads.none reads.read

  by_declaration : (keyword : DeclKeyword) (specs : Specs) (is_grouped : Bool) (inside span : Span) (from to : Cursor) → SpellsStatement text (statement_node (declaration_statement (declaration_of keyword specs is_grouped inside)) span) from to → specs_depth specs ≤ below → is_next is_end to ≡ true → read_statement_of text r below from ≡ Some (statement_node (declaration_statement (declaration_of keyword specs is_grouped inside)) span, to)
  unfolding read_statement_of SpellsStatement SpellsStatementForm SpellsDeclaration
  by_declaration keyword specs is_grouped inside span from to s d e =
      let declared : Declaration = declaration_of keyword specs is_grouped inside in
      rw (of_next_gives s.0.0.1 declaration_keyword ∙ keyword_given keyword) (step _ (read_declaration-complete text r below complete keyword specs is_grouped inside from to s.0 d e) (ap Some (statement_is (declaration_statement declared) span from to s.1 s.2)))

  by_form : (form : StatementForm) (span : Span) (from to : Cursor) → SpellsStatement text (statement_node form span) from to → IsKept form → below_statement form ≤ below → is_next is_end to ≡ true → read_statement_of text r below from ≡ Some (statement_node form span, to)
  unfolding SpellsStatement SpellsStatementForm below_statement declaration_depth
  by_form empty_statement span from to s h d e = absurd h
  by_form (declaration_statement (declaration_of keyword specs is_grouped inside)) span from to s h d e =
      by_declaration keyword specs is_grouped inside span from to s d e
  by_form (labeled_statement n x) span from to s h d e =
      let node : Statement = statement_node (labeled_statement n x) span in
      by_other from node to (labeled-other node s.0.1.0.0 s.0.2.1 (labeled-complete n x span from to s d e))
  by_form (expression_statement x) span from to s h d e =
      by_other from (statement_node (expression_statement x) span) to (simple-other (expression_statement x) span from to s tt d e)
  by_form (send_statement c v) span from to s h d e =
      by_other from (statement_node (send_statement c v) span) to (simple-other (send_statement c v) span from to s (tt, tt) d e)
  by_form (increment_statement x) span from to s h d e =
      by_other from (statement_node (increment_statement x) span) to (simple-other (increment_statement x) span from to s tt d e)
  by_form (decrement_statement x) span from to s h d e =
      by_other from (statement_node (decrement_statement x) span) to (simple-other (decrement_statement x) span from to s tt d e)
  by_form (assignment ls rs) span from to s h d e =
      by_other from (statement_node (assignment ls rs) span) to (simple-other (assignment ls rs) span from to s (tt, tt) d e)
  by_form (operator_assignment op x y) span from to s h d e =
      by_other from (statement_node (operator_assignment op x y) span) to (simple-other (operator_assignment op x y) span from to s (tt, tt) d e)
  by_form (define_statement ns rs) span from to s h d e =
      by_other from (statement_node (define_statement ns rs) span) to (simple-other (define_statement ns rs) span from to s tt d e)
  by_form (go_statement x) span from to s h d e =
      let node : Statement = statement_node (go_statement x) span in
      by_other from node to (go-other node s.0.1.1 (started-complete go_statement x span from s.0.1.0 to s.0.1.1 s.0.1.2 s.0.0 d e s.1 s.2))
  by_form (defer_statement x) span from to s h d e =
      let node : Statement = statement_node (defer_statement x) span in
      by_other from node to (defer-other node s.0.1.1 (started-complete defer_statement x span from s.0.1.0 to s.0.1.1 s.0.1.2 s.0.0 d e s.1 s.2))
  by_form (return_statement es) span from to s h d e =
      let node : Statement = statement_node (return_statement es) span in
      by_other from node to (return-other node s.0.1 (return-complete es span from to s d e))
  by_form (break_statement n) span from to s h d e =
      let node : Statement = statement_node (break_statement n) span in
      by_other from node to (break-other node s.0.1 (branch-complete break_statement n span from s.0.0 to s.0.1 s.0.2 e s.1 s.2))
  by_form (continue_statement n) span from to s h d e =
      let node : Statement = statement_node (continue_statement n) span in
      by_other from node to (continue-other node s.0.1 (branch-complete continue_statement n span from s.0.0 to s.0.1 s.0.2 e s.1 s.2))
  by_form (goto_statement n) span from to s h d e =
      let node : Statement = statement_node (goto_statement n) span in
      by_other from node to (goto-other node s.0.0 s.0.1.1 (goto-complete n span from s.0.1.0 to s.0.1.1 s.0.1.2 s.1 s.2))
  by_form fallthrough_statement span from to s h d e =
      let node : Statement = statement_node fallthrough_statement span in
      by_other from node to (fallthrough-other node s.0.0 s.0.1 (ap (spanned_statement from fallthrough_statement) (behind_gives s.0.1) ∙ statement_is fallthrough_statement span from to s.1 s.2))
  by_form (block_statement ss braces) span from to s h d e =
      let node : Statement = statement_node (block_statement ss braces) span in
      by_other from node to (block-other node s.0.0.1 (block-complete ss braces span from to s.0 d s.1 s.2))
  by_form (if_statement init has_semicolon c ss braces otherwise) span from to s h d e =
      let node : Statement = statement_node (if_statement init has_semicolon c ss braces otherwise) span in
      by_other from node to (if-other node s.0.1.1.1 (if-complete text r below complete init has_semicolon c ss braces otherwise span from to s d e))
  by_form (for_statement init c post has_semicolons ss braces) span from to s h d e =
      let node : Statement = statement_node (for_statement init c post has_semicolons ss braces) span in
      by_other from node to (for-other node s.0.1.1.1.1 (for-complete text r below complete init c post has_semicolons ss braces span from to s d))
  by_form (range_assignment ls x ss braces) span from to s h d e =
      let node : Statement = statement_node (range_assignment ls x ss braces) span in
      by_other from node to (for-other node s.0.1.1.1 (range_assignment-complete text r below complete ls x ss braces span from to s d))
  by_form (range_definition ns x ss braces) span from to s h d e =
      let node : Statement = statement_node (range_definition ns x ss braces) span in
      by_other from node to (for-other node s.0.1.1 (range_definition-complete text r below complete ns x ss braces span from to s d))
  by_form (switch_statement init has_semicolon tag cs) span from to s h d e =
      let node : Statement = statement_node (switch_statement init has_semicolon tag cs) span in
      by_other from node to (switch-other node s.0.1.1.1 (switch-complete text r below complete init has_semicolon tag cs span from to s d))
  by_form (type_switch_statement init has_semicolon n x cs) span from to s h d e =
      let node : Statement = statement_node (type_switch_statement init has_semicolon n x cs) span in
      by_other from node to (switch-other node s.0.1.1.1.1 (type_switch-complete text r below complete init has_semicolon n x cs span from to s d))
  by_form (select_statement cs) span from to s h d e =
      let node : Statement = statement_node (select_statement cs) span in
      by_other from node to (select-other node s.0.1 (select-complete text r below complete cs span from to s d))

  pub read_statement_of-complete : (from to : Cursor) (s : Statement) → SpellsStatement text s from to → IsKept (form_of s) → statement_depth s ≤ suc below → is_next is_end to ≡ true → read_statement_of text r below from ≡ Some (s, to)
  unfolding statement_depth
  read_statement_of-complete from to (statement_node form span) s h d e = by_form form span from to s h (omega arith) e
