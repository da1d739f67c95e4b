-- The reader gives each loop that the tokens spell.
use Rattle.std.proofs.Common.{◌≡◌, ℕ, ◌≤◌, Bool, true, false, List, Option, Some, refl, sym, ap, ◌∙◌, subst, arith}
use Rattle.std.proofs.lemmas.Bool.{and_from}
use Rattle.lexer.specs.Spelling.{same_kind}
use Rattle.lexer.specs.declared.token.TokenKind.{TokenKind}
use Rattle.lexer.specs.declared.token.TokenKind.TheVariants.{RangeKeyword, Assign, Define, LeftBrace, Comma, Semicolon}
use Rattle.tree.specs.declared.span.Span.{Span}
use Rattle.tree.specs.Syntax.{Identifier, Expression, Expressions, no_expression, expression_and, OptionalExpression, missing_expression, present_expression, Statements, Statement, statement_node, StatementForm, expression_statement, for_statement, range_assignment, range_definition, OptionalStatement, missing_statement, present_statement}
use Rattle.tree.specs.Depth.{expression_depth, expressions_depth, optional_depth, statements_depth, statement_depth, below_statement, optional_statement_depth}
use Rattle.meaning.specs.Cursor.{GoText, Cursor, TakesToken, TakesSemicolon, is_next, is_closing, semicolon, start_at}
use Rattle.meaning.specs.WellFormed.{FitsHeader, OptionalFitsHeader, StatementFitsHeader, InitFitsHeader}
use Rattle.meaning.specs.Grammar.{as_expression, block, SpellsExpression, SpellsOptional, SpellsStatements, SpellsStatement, SpellsStatementForm, SpellsOptionalStatement}
use Rattle.tree_reader.specs.Reading.{stands, behind, take, span_between}
use Rattle.tree_reader.specs.Reader.{Readers, as_identifiers, read_expressions, read_expression_unless, read_loop, read_post, read_clauses, read_range, read_for_after, read_for}
use Rattle.tree_reader.specs.Claims.{AreComplete}
use Rattle.tree_reader.proofs.Taken.{step, when_true, when_false, only_true, behind_gives, next_gives, stands_gives, stands_other, stands_not, semicolon_stands, next_semicolon, behind_semicolon_gives}
use Rattle.tree_reader.proofs.CompleteLists.{read_expressions-complete, read_block-complete}
use Rattle.tree_reader.proofs.Begins.{begins_expression, expression_begins, level_high}
use Rattle.tree_reader.proofs.CompleteStatementsSimple.{stops_at, names, ReadsSimple, reads_simple, not_both, statement_is, expression_depth-least, expressions-begin, read_simple-complete}
use Rattle.tree_reader.proofs.CompleteStatementsBegins.{fits_header, ends_before, open_before, semicolon_there, simple-begins, optional-open}
use Rattle.tree_reader.proofs.CompleteStatementsHeaders.{ends_semicolon, as_part-gives}

pub semicolon_no : (other : TokenKind) {from to : Cursor} → TakesSemicolon from to → same_kind Semicolon other ≡ false → stands other from ≡ false
unfolding stands
semicolon_no other t e = next_semicolon t (λ k. same_kind k other) ∙ e

module _ (text : GoText) (r : Readers) (below : ℕ) (complete : AreComplete text below r) where
  -- a node that ends with a block
  loop-complete : (form : Statements → Span → StatementForm) (ss : Statements) (braces span : Span) (from place to : Cursor) → block braces (SpellsStatements text ss) place to → statements_depth ss ≤ below → span.start ≡ start_at from → span.end ≡ to.end → read_loop text r below from form place ≡ Some (statement_node (form ss braces) span, to)
  unfolding read_loop
  loop-complete form ss braces span from place to s d p q =
      step _ (read_block-complete text r below complete ss braces place to s d) (ap Some (statement_is (form ss braces) span from to p q))

  post-complete : (post : OptionalStatement) (from to : Cursor) {after : Cursor} → SpellsOptionalStatement text post from to → InitFitsHeader post → optional_statement_depth post ≤ below → TakesToken LeftBrace to after → read_post text r below from ≡ Some (post, to)
  unfolding SpellsOptionalStatement SpellsStatement optional_statement_depth statement_depth
  post-complete missing_statement from to s h d t = when_true _ (ap (stands LeftBrace) s ∙ stands_gives t) (λ i. Some (missing_statement, s i))
  post-complete (present_statement (statement_node form span)) from to s h d t =
      let fits = fits_header form h in
      let read = read_simple-complete text r below complete true form span from to s fits (omega arith) (ends_before true t refl refl) in
      let begins = simple-begins text true form from to fits s.0 in
      when_false _ (stands_not begins_expression LeftBrace from refl begins) (step _ read (step _ (as_part-gives text r below complete (statement_node form span) d) refl))

  post-open : (post : OptionalStatement) (from to : Cursor) {after : Cursor} → SpellsOptionalStatement text post from to → InitFitsHeader post → TakesToken LeftBrace to after → is_next is_closing from ≡ false
  unfolding SpellsOptionalStatement SpellsStatement
  post-open missing_statement from to s h t = ap (is_next is_closing) s ∙ next_gives t is_closing
  post-open (present_statement (statement_node form span)) from to s h t =
      open_before from (simple-begins text true form from to (fits_header form h) s.0)

  condition-complete : (c : OptionalExpression) (from to : Cursor) {after : Cursor} → SpellsOptional text as_expression c from to → OptionalFitsHeader c → optional_depth c ≤ below → TakesSemicolon to after → read_expression_unless text r Semicolon true from ≡ Some (c, to)
  unfolding read_expression_unless SpellsOptional optional_depth
  condition-complete missing_expression from to s h d t = when_true _ (ap (stands Semicolon) s ∙ semicolon_stands t) (λ i. Some (missing_expression, s i))
  condition-complete (present_expression e) from to s h d t =
      let begins = expression_begins text e from to s in
      let end = ends_semicolon true t in
      when_false _ (stands_not begins_expression Semicolon from refl begins) (step _ (complete.expression true 1 from to e s (level_high e) h d end.stop) refl)

  -- what a header has behind its first semicolon
  record Clauses (c : OptionalExpression) (post : OptionalStatement) (ss : Statements) (braces : Span) (from to : Cursor) : Type 0 where
    condition : Cursor
    update : Cursor
    body : Cursor
    condition_spelled : SpellsOptional text as_expression c from condition
    semicolon_taken : TakesSemicolon condition update
    update_spelled : SpellsOptionalStatement text post update body
    body_spelled : block braces (SpellsStatements text ss) body to

  clauses-complete : (init : OptionalStatement) (c : OptionalExpression) (post : OptionalStatement) (ss : Statements) (braces span : Span) (from place to : Cursor) → Clauses c post ss braces place to → OptionalFitsHeader c → InitFitsHeader post → optional_depth c ≤ below → optional_statement_depth post ≤ below → statements_depth ss ≤ below → span.start ≡ start_at from → span.end ≡ to.end → read_clauses text r below from init place ≡ Some (statement_node (for_statement init c post true ss braces) span, to)
  unfolding read_clauses take
  clauses-complete init c post ss braces span from place to k h f d g l p q =
      let t = k.semicolon_taken in
      let read = condition-complete c place k.condition k.condition_spelled h d t in
      let update = ap (read_post text r below) (behind_semicolon_gives t) ∙ post-complete post k.update k.body k.update_spelled f g k.body_spelled.0.1 in
      step _ read (step _ (only_true (semicolon_stands t) refl) (step _ update (loop-complete (for_statement init c post true) ss braces span from k.body to k.body_spelled l p q)))

  range-complete : (form : Expression → Statements → Span → StatementForm) (e : Expression) (ss : Statements) (braces span : Span) (from place inner body to : Cursor) → TakesToken RangeKeyword place inner → SpellsExpression text as_expression e inner body → block braces (SpellsStatements text ss) body to → FitsHeader e → expression_depth e ≤ below → statements_depth ss ≤ below → span.start ≡ start_at from → span.end ≡ to.end → read_range text r below from form place ≡ Some (statement_node (form e ss braces) span, to)
  unfolding read_range
  range-complete form e ss braces span from place inner body to word s b h d f p q =
      let end = ends_before true b.0.1 refl refl in
      step _ (ap (r.read_expression true 1) (behind_gives word) ∙ complete.expression true 1 inner body e s (level_high e) h d end.stop) (loop-complete (form e) ss braces span from body to b f p q)

  -- The three ways in which a loop's header goes on behind its first part.
  clauses-after : (form : StatementForm) (inside : Span) (c : OptionalExpression) (post : OptionalStatement) (ss : Statements) (braces span : Span) (from start between place to : Cursor) → SpellsStatement text (statement_node form inside) start between → StatementFitsHeader form → TakesSemicolon between place → Clauses c post ss braces place to → OptionalFitsHeader c → InitFitsHeader post → statement_depth (statement_node form inside) ≤ below → optional_depth c ≤ below → optional_statement_depth post ≤ below → statements_depth ss ≤ below → span.start ≡ start_at from → span.end ≡ to.end → (read : ReadsSimple text r below complete true start (statement_node form inside) between) → read_for_after text r below from start read.es read.place ≡ Some (statement_node (for_statement (present_statement (statement_node form inside)) c post true ss braces) span, to)
  unfolding read_for_after
  clauses-after form inside c post ss braces span from start between place to s h t k f g d l m n p q read =
      let init : OptionalStatement = present_statement (statement_node form inside) in
      let part = as_part-gives text r below complete (statement_node form inside) d in
      let more = clauses-complete init c post ss braces span from place to k f g l m n p q in
      when_false _ read.no_definition (when_false _ read.no_assignment (step _ read.after (when_true _ (semicolon_stands t) (step _ part (ap (read_clauses text r below from init) (behind_semicolon_gives t) ∙ more)))))

  condition-after : (c : Expression) (inside : Span) (ss : Statements) (braces span : Span) (from start place to : Cursor) → block braces (SpellsStatements text ss) place to → statements_depth ss ≤ below → span.start ≡ start_at from → span.end ≡ to.end → (read : ReadsSimple text r below complete true start (statement_node (expression_statement c) inside) place) → read_for_after text r below from start read.es read.place ≡ Some (statement_node (for_statement missing_statement (present_expression c) missing_statement false ss braces) span, to)
  unfolding read_for_after same_kind
  condition-after c inside ss braces span from start place to b d p q read =
      let more = loop-complete (for_statement missing_statement (present_expression c) missing_statement false) ss braces span from place to b d p q in
      when_false _ read.no_definition (when_false _ read.no_assignment (step _ read.after (when_false _ (stands_other b.0.1 Semicolon refl) more)))

  assignment-after : (es : Expressions) (e : Expression) (ss : Statements) (braces span : Span) (from start place inner word body to : Cursor) → TakesToken Assign place inner → TakesToken RangeKeyword inner word → SpellsExpression text as_expression e word body → block braces (SpellsStatements text ss) body to → FitsHeader e → expression_depth e ≤ below → statements_depth ss ≤ below → span.start ≡ start_at from → span.end ≡ to.end → read_for_after text r below from start es place ≡ Some (statement_node (range_assignment es e ss braces) span, to)
  unfolding read_for_after same_kind
  assignment-after es e ss braces span from start place inner word body to sign range s b h d f p q =
      let here = and_from (stands Assign place) (stands RangeKeyword (behind place)) (stands_gives sign) (ap (stands RangeKeyword) (behind_gives sign) ∙ stands_gives range) in
      let more = range-complete (range_assignment es) e ss braces span from inner word body to range s b h d f p q in
      when_false _ (not_both place Define RangeKeyword (stands_other sign Define refl)) (when_true _ here (ap (read_range text r below from (range_assignment es)) (behind_gives sign) ∙ more))

  definition-after : (ns : List Identifier) (e : Expression) (ss : Statements) (braces span : Span) (from start place inner word body to : Cursor) → (es : Expressions) → as_identifiers es ≡ Some ns → TakesToken Define place inner → TakesToken RangeKeyword inner word → SpellsExpression text as_expression e word body → block braces (SpellsStatements text ss) body to → FitsHeader e → expression_depth e ≤ below → statements_depth ss ≤ below → span.start ≡ start_at from → span.end ≡ to.end → read_for_after text r below from start es place ≡ Some (statement_node (range_definition ns e ss braces) span, to)
  unfolding read_for_after
  definition-after ns e ss braces span from start place inner word body to es are sign range s b h d f p q =
      let here = and_from (stands Define place) (stands RangeKeyword (behind place)) (stands_gives sign) (ap (stands RangeKeyword) (behind_gives sign) ∙ stands_gives range) in
      let more = range-complete (range_definition ns) e ss braces span from inner word body to range s b h d f p q in
      when_true _ here (step _ are (ap (read_range text r below from (range_definition ns)) (behind_gives sign) ∙ more))

  -- A loop whose header begins with expressions, behind its keyword.
  by_expressions : {kind : TokenKind} (from start place : Cursor) (es : Expressions) {o : Option (Statement × Cursor)} → TakesToken kind from start → is_next begins_expression start ≡ true → read_expressions text r true start ≡ Some (es, place) → read_for_after text r below from start es place ≡ o → read_for text r below from ≡ o
  unfolding read_for
  by_expressions from start place es t begins read more =
      rw (behind_gives t) (when_false _ (stands_not begins_expression LeftBrace start refl begins) (when_false _ (stands_not begins_expression RangeKeyword start refl begins) (when_false _ (stands_not begins_expression Semicolon start refl begins) (step _ read more))))

  by_semicolon : {kind : TokenKind} (from start place : Cursor) {o : Option (Statement × Cursor)} → TakesToken kind from start → TakesSemicolon start place → read_clauses text r below from missing_statement place ≡ o → read_for text r below from ≡ o
  unfolding read_for same_kind
  by_semicolon from start place t end more =
      rw (behind_gives t) (when_false _ (semicolon_no LeftBrace end refl) (when_false _ (semicolon_no RangeKeyword end refl) (when_true _ (semicolon_stands end) (ap (read_clauses text r below from missing_statement) (behind_semicolon_gives end) ∙ more))))

  -- a loop with a condition alone, or nothing
  for_bare : (c : OptionalExpression) (ss : Statements) (braces span : Span) (from start place to : Cursor) {kind : TokenKind} → TakesToken kind from start → SpellsOptional text as_expression c start place → block braces (SpellsStatements text ss) place to → OptionalFitsHeader c → optional_depth c ≤ below → statements_depth ss ≤ below → span.start ≡ start_at from → span.end ≡ to.end → read_for text r below from ≡ Some (statement_node (for_statement missing_statement c missing_statement false ss braces) span, to)
  unfolding read_for SpellsOptional SpellsStatement SpellsStatementForm optional_depth below_statement
  for_bare missing_expression ss braces span from start place to t s b h d f p q =
      let form : Statements → Span → StatementForm = for_statement missing_statement missing_expression missing_statement false in
      let more = loop-complete form ss braces span from place to b f p q in
      rw (behind_gives t) (when_true _ (ap (stands LeftBrace) s ∙ stands_gives b.0.1) (ap (read_loop text r below from form) s ∙ more))
  for_bare (present_expression e) ss braces span from start place to t s b h d f p q =
      let end = ends_before true b.0.1 refl refl in
      let reads = reads_simple text r below complete true (expression_statement e) (span_between start place) start place (s, refl, refl) h d end in
      let more = condition-after e (span_between start place) ss braces span from start place to b f p q reads in
      by_expressions from start reads.place reads.es t (expression_begins text e start place s) reads.first more

  -- a loop with a condition between two semicolons
  for_initial : (init : OptionalStatement) (c : OptionalExpression) (post : OptionalStatement) (ss : Statements) (braces span : Span) (from start between place to : Cursor) {kind : TokenKind} → TakesToken kind from start → SpellsOptionalStatement text init start between → TakesSemicolon between place → Clauses c post ss braces place to → InitFitsHeader init → OptionalFitsHeader c → InitFitsHeader post → optional_statement_depth init ≤ below → optional_depth c ≤ below → optional_statement_depth post ≤ below → statements_depth ss ≤ below → span.start ≡ start_at from → span.end ≡ to.end → read_for text r below from ≡ Some (statement_node (for_statement init c post true ss braces) span, to)
  unfolding SpellsOptionalStatement SpellsStatement optional_statement_depth statement_depth
  for_initial missing_statement c post ss braces span from start between place to t s end k e h f d l m n p q =
      by_semicolon from start place t (subst (λ from. TakesSemicolon from place) (sym s) end) (clauses-complete missing_statement c post ss braces span from place to k h f l m n p q)
  for_initial (present_statement (statement_node form inside)) c post ss braces span from start between place to t s end k e h f d l m n p q =
      let fits = fits_header form e in
      let reads = reads_simple text r below complete true form inside start between s fits (omega arith) (ends_semicolon true end) in
      let more = clauses-after form inside c post ss braces span from start between place to s e end k h f d l m n p q reads in
      by_expressions from start reads.place reads.es t (simple-begins text true form start between fits s.0) reads.first more

  for_clauses : (init : OptionalStatement) (c : OptionalExpression) (post : OptionalStatement) (ss : Statements) (braces span : Span) (from start between place condition update body to : Cursor) {kind : TokenKind} → TakesToken kind from start → SpellsOptionalStatement text init start between → semicolon between place → SpellsOptional text as_expression c place condition → semicolon condition update → SpellsOptionalStatement text post update body → block braces (SpellsStatements text ss) body to → InitFitsHeader init → OptionalFitsHeader c → InitFitsHeader post → optional_statement_depth init ≤ below → optional_depth c ≤ below → optional_statement_depth post ≤ below → statements_depth ss ≤ below → span.start ≡ start_at from → span.end ≡ to.end → read_for text r below from ≡ Some (statement_node (for_statement init c post true ss braces) span, to)
  for_clauses init c post ss braces span from start between place condition update body to t s first sc second sp b e h f d l m n p q =
      let last = semicolon_there second (post-open post update body sp f b.0.1) in
      let end = semicolon_there first (optional-open text c place condition sc (next_semicolon last is_closing)) in
      let k : Clauses c post ss braces place to = record { condition = condition; update = update; body = body; condition_spelled = sc; semicolon_taken = last; update_spelled = sp; body_spelled = b } in
      for_initial init c post ss braces span from start between place to t s end k e h f d l m n p q

  pub for-complete : (init : OptionalStatement) (c : OptionalExpression) (post : OptionalStatement) (has_semicolons : Bool) (ss : Statements) (braces span : Span) (from to : Cursor) → SpellsStatement text (statement_node (for_statement init c post has_semicolons ss braces) span) from to → below_statement (for_statement init c post has_semicolons ss braces) ≤ below → read_for text r below from ≡ Some (statement_node (for_statement init c post has_semicolons ss braces) span, to)
  unfolding SpellsStatement SpellsStatementForm below_statement
  for-complete init c post true ss braces span from to s d =
      let word = s.0.1.1.1 in
      let header = word.2.1 in
      let more = header.2.2 in
      for_clauses init c post ss braces span from word.0 header.0 header.2.0 more.0 more.2.0 word.2.0 to word.1 header.1 header.2.1 more.1 more.2.1 more.2.2 word.2.2 s.0.0 s.0.1.0 s.0.1.1.0 (omega arith) (omega arith) (omega arith) (omega arith) s.1 s.2
  for-complete missing_statement c missing_statement false ss braces span from to s d =
      let word = s.0.1.1.1 in
      for_bare c ss braces span from word.0 word.2.0 to word.1 word.2.1.1.1 word.2.2 s.0.1.0 (omega arith) (omega arith) s.1 s.2
  for-complete (present_statement x) c post false ss braces span from to s d = absurd s.0.1.1.1.2.1.0
  for-complete missing_statement c (present_statement x) false ss braces span from to s d = absurd s.0.1.1.1.2.1.1.0

  pub range_assignment-complete : (ls : Expressions) (e : Expression) (ss : Statements) (braces span : Span) (from to : Cursor) → SpellsStatement text (statement_node (range_assignment ls e ss braces) span) from to → below_statement (range_assignment ls e ss braces) ≤ below → read_for text r below from ≡ Some (statement_node (range_assignment ls e ss braces) span, to)
  unfolding read_for SpellsStatement SpellsStatementForm below_statement expressions_depth same_kind
  range_assignment-complete no_expression e ss braces span from to s d =
      let word = s.0.1.1 in
      let range = word.2.2 in
      let more = range-complete (range_assignment no_expression) e ss braces span from word.2.0 range.0 range.2.0 to range.1 range.2.1 range.2.2 s.0.1.0 (omega arith) (omega arith) s.1 s.2 in
      rw (behind_gives word.1 ∙ word.2.1) (when_false _ (stands_other range.1 LeftBrace refl) (when_true _ (stands_gives range.1) more))
  range_assignment-complete (expression_and x xs) e ss braces span from to s d =
      let ls : Expressions = expression_and x xs in
      let word = s.0.1.1 in
      let left = word.2.1 in
      let range = word.2.2 in
      let read = read_expressions-complete text r below complete true ls word.0 left.0 left.1 s.0.0 (omega arith) (stops_at true left.2 refl) (stands_other left.2 Comma refl) in
      let more = assignment-after ls e ss braces span from word.0 left.0 word.2.0 range.0 range.2.0 to left.2 range.1 range.2.1 range.2.2 s.0.1.0 (omega arith) (omega arith) s.1 s.2 in
      by_expressions from word.0 left.0 ls word.1 (expressions-begin text ls word.0 left.0 left.1) read more

  pub range_definition-complete : (ns : List Identifier) (e : Expression) (ss : Statements) (braces span : Span) (from to : Cursor) → SpellsStatement text (statement_node (range_definition ns e ss braces) span) from to → below_statement (range_definition ns e ss braces) ≤ below → read_for text r below from ≡ Some (statement_node (range_definition ns e ss braces) span, to)
  unfolding SpellsStatement SpellsStatementForm below_statement same_kind
  range_definition-complete ns e ss braces span from to s d =
      let word = s.0.1 in
      let sign = word.2.2 in
      let range = sign.2 in
      let left = names text true ns word.0 word.2.0 word.2.1 in
      let enough : expressions_depth left.es ≤ below = omega (arith, left.depth, expression_depth-least text e range.0 range.2.0 range.2.1, d) in
      let read = read_expressions-complete text r below complete true left.es word.0 word.2.0 left.spelled left.stand enough (stops_at true sign.1 refl) (stands_other sign.1 Comma refl) in
      let more = definition-after ns e ss braces span from word.0 word.2.0 sign.0 range.0 range.2.0 to left.es left.are sign.1 range.1 range.2.1 range.2.2 s.0.0 (omega arith) (omega arith) s.1 s.2 in
      by_expressions from word.0 word.2.0 left.es word.1 (expressions-begin text left.es word.0 word.2.0 left.spelled) read more
