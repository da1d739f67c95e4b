-- The reader gives each `switch` and each `select` that the tokens spell.
use Rattle.std.proofs.Common.{◌≡◌, ℕ, zero, suc, ◌≤◌, ◌<◌, Bool, true, false, List, [], ◌∷◌, length, Option, Some, None, refl, sym, ap, ◌∙◌, subst, arith}
use Rattle.std.specs.Prelude.{not, ◌||◌, nat_le}
use Rattle.std.proofs.lemmas.Bool.{le-leb, and_from}
use Rattle.lexer.specs.Spelling.{same_kind}
use Rattle.lexer.specs.declared.token.TokenKind.{TokenKind}
use Rattle.lexer.specs.declared.token.TokenKind.TheVariants.{CaseKeyword, DefaultKeyword, TypeKeyword, LeftParenthesis, LeftBracket, LeftBrace, RightBrace, Comma, Semicolon, Dot, Colon}
use Rattle.tree.specs.declared.span.Span.{Span}
use Rattle.tree.specs.Syntax.{Identifier, Expression, Expressions, no_expression, expression_and, OptionalExpression, missing_expression, present_expression, Statements, Statement, statement_node, StatementForm, expression_statement, send_statement, assignment, define_statement, switch_statement, type_switch_statement, select_statement, OptionalStatement, missing_statement, present_statement, CaseClauses, no_case, case_and, CommunicationClauses, no_communication, communication_and}
use Rattle.tree.specs.Depth.{expression_depth, expressions_depth, optional_depth, statement_depth, below_statement, optional_statement_depth, cases_depth, communications_depth}
use Rattle.meaning.specs.Cursor.{GoText, Cursor, ◌⨾◌, TakesToken, token, is_next, is_closing, start_at}
use Rattle.meaning.specs.WellFormed.{level, primary_level, IsPrimary, FitsHeader, InitFitsHeader, IsOne, IsCommunication}
use Rattle.meaning.specs.Mentions.{is_one}
use Rattle.meaning.specs.Grammar.{as_expression, in_braces, in_parentheses, initial, case_head, communication_head, guard_name, CommunicationFits, SpellsExpression, SpellsExpressions, SpellsMore, SpellsOptional, SpellsStatement, SpellsStatementForm, SpellsOptionalStatement, SpellsCases, SpellsCommunications}
use Rattle.tree_reader.specs.Reading.{stands, steps, take, span_between}
use Rattle.tree_reader.specs.Reader.{Readers, Guard, of_value, of_type, type_guard, is_communication, binary_operator, ends_statements, read_statements, read_simple, read_case_head, read_cases, read_communication, read_communication_head, read_communications, read_guard, read_switch_header, read_switch_guard, switch_form, read_switch, read_select}
use Rattle.tree_reader.specs.Claims.{IsLooser, AreComplete}
use Rattle.tree_reader.proofs.Taken.{step, when_true, when_false, only_true, behind_gives, next_gives, of_next_gives, stands_gives, stands_other, stands_not, take_gives, next_implied, span_is}
use Rattle.tree_reader.proofs.Lengths.{expressions_longest, statements_longest, optional_statement_longest}
use Rattle.tree_reader.proofs.CompleteLists.{read_expressions-complete, read_statements-complete}
use Rattle.tree_reader.proofs.Begins.{begins_expression, expression_begins}
use Rattle.tree_reader.proofs.CompleteStatementsSimple.{stops_at, follows_simple, Ends, statement_is, read_simple-complete}
use Rattle.tree_reader.proofs.CompleteStatementsBegins.{fits_header, communicates, ends_before, open_before, semicolon_there, simple-begins}
use Rattle.tree_reader.proofs.CompleteStatementsHeaders.{header_of, as_part-gives, header-initial, header-alone, as_statement, read_simple-expression}
use Rattle.tree_reader.proofs.CompleteStatementsLoops.{semicolon_no}

-- what a clause begins with
abbrev begins_clause : TokenKind → Bool
begins_clause CaseKeyword = true
begins_clause DefaultKeyword = true
begins_clause _ = false

clause_ends : (k : TokenKind) → (not (begins_clause k) || ends_statements k) ≡ true
clause_ends CaseKeyword = refl
clause_ends DefaultKeyword = refl
clause_ends _ = refl

is_one-complete : (es : Expressions) → IsOne es → is_one es ≡ true
is_one-complete (expression_and e no_expression) h = refl
is_one-complete no_expression h = absurd h
is_one-complete (expression_and e (expression_and f es)) h = absurd h

is_communication-complete : (form : StatementForm) → IsCommunication form → is_communication form ≡ true
is_communication-complete (expression_statement e) h = refl
is_communication-complete (send_statement c v) h = refl
is_communication-complete (assignment ls rs) h = is_one-complete rs h
is_communication-complete (define_statement ns rs) h = is_one-complete rs h
is_communication-complete _ h = absurd h

-- at the dot before `(type)`
at_guard : {first inner word end : Cursor} → TakesToken Dot first inner → TakesToken LeftParenthesis inner word → TakesToken TypeKeyword word end → Ends true first
unfolding same_kind
at_guard {first} {inner} dot left word = record {
  stop = record {
    dot = λ e. rw (behind_gives dot) (rw (behind_gives left) (and_from (stands LeftParenthesis inner) _ (stands_gives left) (stands_gives word)));
    bracket = stands_other dot LeftBracket refl;
    parenthesis = stands_other dot LeftParenthesis refl;
    brace = λ h. stands_other dot LeftBrace refl;
    operator = subst (IsLooser 1) (sym (of_next_gives dot binary_operator)) tt;
  };
  next = next_gives dot follows_simple;
}

primary_is : (e : Expression) → IsPrimary e → nat_le primary_level (level e) ≡ true
primary_is e h = le-leb primary_level (level e) (omega (arith, h))

module _ (text : GoText) where
  case_head-begins : (es : Expressions) (from to : Cursor) → case_head es (SpellsExpressions text as_expression es) from to → is_next begins_clause from ≡ true
  case_head-begins no_expression from to s = next_gives s begins_clause
  case_head-begins (expression_and e es) from to s = next_gives s.1 begins_clause

  case_head-shorter : (es : Expressions) (from to : Cursor) → case_head es (SpellsExpressions text as_expression es) from to → length to.left < length from.left
  case_head-shorter no_expression from to s = omega (arith, ap length s.taken)
  case_head-shorter (expression_and e es) from to s =
      omega (arith, ap length s.1.taken, expressions_longest text as_expression (expression_and e es) s.0 to s.2)

  communication_head-begins : (c : OptionalStatement) (from to : Cursor) → communication_head c (SpellsOptionalStatement text c) from to → is_next begins_clause from ≡ true
  communication_head-begins missing_statement from to s = next_gives s begins_clause
  communication_head-begins (present_statement x) from to s = next_gives s.1 begins_clause

  communication_head-shorter : (c : OptionalStatement) (from to : Cursor) → communication_head c (SpellsOptionalStatement text c) from to → length to.left < length from.left
  communication_head-shorter missing_statement from to s = omega (arith, ap length s.taken)
  communication_head-shorter (present_statement x) from to s =
      omega (arith, ap length s.1.taken, optional_statement_longest text (present_statement x) s.0 to s.2)

  -- The statements of a clause end at the next one or at the closing brace.
  cases-next : (cs : CaseClauses) (from to : Cursor) {after : Cursor} → SpellsCases text cs from to → TakesToken RightBrace to after → is_next ends_statements from ≡ true
  unfolding SpellsCases
  cases-next no_case from to s t = ap (is_next ends_statements) s ∙ next_gives t ends_statements
  cases-next (case_and es ss span cs) from to s t =
      next_implied begins_clause ends_statements from clause_ends (case_head-begins es from s.1.0.0 s.1.0.1)

  communications-next : (cs : CommunicationClauses) (from to : Cursor) {after : Cursor} → SpellsCommunications text cs from to → TakesToken RightBrace to after → is_next ends_statements from ≡ true
  unfolding SpellsCommunications
  communications-next no_communication from to s t = ap (is_next ends_statements) s ∙ next_gives t ends_statements
  communications-next (communication_and c ss span cs) from to s t =
      next_implied begins_clause ends_statements from clause_ends (communication_head-begins c from s.1.1.0.0 s.1.1.0.1)

  initial-no_brace : (init : OptionalStatement) (from to : Cursor) → initial init true (SpellsOptionalStatement text init) from to → InitFitsHeader init → is_next is_closing to ≡ false → stands LeftBrace from ≡ false
  unfolding SpellsOptionalStatement SpellsStatement same_kind
  initial-no_brace missing_statement from to s h e = semicolon_no LeftBrace (semicolon_there s e) refl
  initial-no_brace (present_statement (statement_node form span)) from to s h e =
      stands_not begins_expression LeftBrace from refl (simple-begins text true form from s.0 (fits_header form h) s.1.0)

module _ (text : GoText) (r : Readers) (below : ℕ) (complete : AreComplete text below r) where
  case_head-complete : (es : Expressions) (from to : Cursor) {after : Cursor} → case_head es (SpellsExpressions text as_expression es) from to → expressions_depth es ≤ below → TakesToken Colon to after → read_case_head text r below from ≡ Some (es, to)
  unfolding same_kind
  case_head-complete no_expression from to s d t = when_true _ (stands_gives s) (ap (λ p. Some (no_expression, p)) (behind_gives s))
  case_head-complete (expression_and e es) from to s d t =
      let read = read_expressions-complete text r below complete false (expression_and e es) s.0 to s.2 tt d (stops_at false t refl) (stands_other t Comma refl) in
      when_false _ (stands_other s.1 DefaultKeyword refl) (step _ (take_gives s.1) read)

  -- a clause and those behind it
  case_after : (n : ℕ) (es : Expressions) (ss : Statements) (span : Span) (cs : CaseClauses) (from head inner between to : Cursor) → is_next begins_clause from ≡ true → read_case_head text r below from ≡ Some (es, head) → TakesToken Colon head inner → read_statements text r (steps inner) inner ≡ Some (ss, between) → read_cases text r below n between ≡ Some (cs, to) → span.start ≡ start_at from → span.end ≡ between.end → read_cases text r below (suc n) from ≡ Some (case_and es ss span cs, to)
  unfolding read_cases
  case_after n es ss span cs from head inner between to begins first colon body more p q =
      when_false _ (stands_not begins_clause RightBrace from refl begins) (step _ first (step _ (take_gives colon) (step _ body (step _ more (λ i. Some (case_and es ss (span_is span from between p q i) cs, to))))))

  cases-complete : (n : ℕ) (cs : CaseClauses) (from to : Cursor) {after : Cursor} → SpellsCases text cs from to → cases_depth cs ≤ below → TakesToken RightBrace to after → length from.left < n → read_cases text r below n from ≡ Some (cs, to)
  unfolding read_cases SpellsCases cases_depth
  cases-complete zero cs from to s d t short = absurd (omega arith)
  cases-complete (suc n) no_case from to s d t short = when_true _ (ap (stands RightBrace) s ∙ stands_gives t) (λ i. Some (no_case, s i))
  cases-complete (suc n) (case_and es ss span cs) from to s d t short =
      let head = s.1.0 in
      let body = head.2 in
      let first = case_head-complete es from head.0 head.1 (omega arith) body.1 in
      let statements = read_statements-complete text r below complete (suc (length body.0.left)) ss body.0 s.0 body.2 (omega arith) (cases-next text cs s.0 to s.2 t) (omega arith) in
      let shorter : length s.0.left < n = omega (arith, case_head-shorter text es from head.0 head.1, ap length body.1.taken, statements_longest text ss body.0 s.0 body.2) in
      let more = cases-complete n cs s.0 to s.2 (omega arith) t shorter in
      case_after n es ss span cs from head.0 body.0 s.0 to (case_head-begins text es from head.0 head.1) first body.1 statements more s.1.1 s.1.2

  communication-complete : (form : StatementForm) (span : Span) (from to : Cursor) {after : Cursor} → SpellsStatement text (statement_node form span) from to → IsCommunication form → statement_depth (statement_node form span) ≤ below → TakesToken Colon to after → read_communication text r below from ≡ Some (present_statement (statement_node form span), to)
  unfolding read_communication statement_depth
  communication-complete form span from to s h d t =
      let read = read_simple-complete text r below complete false form span from to s (communicates form h) (omega arith) (ends_before false t refl refl) in
      step _ read (step _ (as_part-gives text r below complete (statement_node form span) d) (only_true (is_communication-complete form h) refl))

  communication_head-complete : (c : OptionalStatement) (from to : Cursor) {after : Cursor} → communication_head c (SpellsOptionalStatement text c) from to → CommunicationFits c → optional_statement_depth c ≤ below → TakesToken Colon to after → read_communication_head text r below from ≡ Some (c, to)
  unfolding SpellsOptionalStatement optional_statement_depth same_kind
  communication_head-complete missing_statement from to s h d t = when_true _ (stands_gives s) (ap (λ p. Some (missing_statement, p)) (behind_gives s))
  communication_head-complete (present_statement (statement_node form span)) from to s h d t =
      when_false _ (stands_other s.1 DefaultKeyword refl) (step _ (take_gives s.1) (communication-complete form span s.0 to s.2 h d t))

  -- a clause and those behind it
  communication_after : (n : ℕ) (c : OptionalStatement) (ss : Statements) (span : Span) (cs : CommunicationClauses) (from head inner between to : Cursor) → is_next begins_clause from ≡ true → read_communication_head text r below from ≡ Some (c, head) → TakesToken Colon head inner → read_statements text r (steps inner) inner ≡ Some (ss, between) → read_communications text r below n between ≡ Some (cs, to) → span.start ≡ start_at from → span.end ≡ between.end → read_communications text r below (suc n) from ≡ Some (communication_and c ss span cs, to)
  unfolding read_communications
  communication_after n c ss span cs from head inner between to begins first colon body more p q =
      when_false _ (stands_not begins_clause RightBrace from refl begins) (step _ first (step _ (take_gives colon) (step _ body (step _ more (λ i. Some (communication_and c ss (span_is span from between p q i) cs, to))))))

  communications-complete : (n : ℕ) (cs : CommunicationClauses) (from to : Cursor) {after : Cursor} → SpellsCommunications text cs from to → communications_depth cs ≤ below → TakesToken RightBrace to after → length from.left < n → read_communications text r below n from ≡ Some (cs, to)
  unfolding read_communications SpellsCommunications communications_depth
  communications-complete zero cs from to s d t short = absurd (omega arith)
  communications-complete (suc n) no_communication from to s d t short = when_true _ (ap (stands RightBrace) s ∙ stands_gives t) (λ i. Some (no_communication, s i))
  communications-complete (suc n) (communication_and c ss span cs) from to s d t short =
      let clause = s.1 in
      let head = clause.1.0 in
      let body = head.2 in
      let first = communication_head-complete c from head.0 head.1 s.0 (omega arith) body.1 in
      let statements = read_statements-complete text r below complete (suc (length body.0.left)) ss body.0 clause.0 body.2 (omega arith) (communications-next text cs clause.0 to clause.2 t) (omega arith) in
      let shorter : length clause.0.left < n = omega (arith, communication_head-shorter text c from head.0 head.1, ap length body.1.taken, statements_longest text ss body.0 clause.0 body.2) in
      let more = communications-complete n cs clause.0 to clause.2 (omega arith) t shorter in
      communication_after n c ss span cs from head.0 body.0 clause.0 to (communication_head-begins text c from head.0 head.1) first body.1 statements more clause.1.1 clause.1.2

  pub select-complete : (cs : CommunicationClauses) (span : Span) (from to : Cursor) → SpellsStatement text (statement_node (select_statement cs) span) from to → below_statement (select_statement cs) ≤ below → read_select text r below from ≡ Some (statement_node (select_statement cs) span, to)
  unfolding read_select SpellsStatement SpellsStatementForm below_statement
  select-complete cs span from to s d =
      let word = s.0 in
      let braces = word.2 in
      let clauses = communications-complete (suc (length braces.0.left)) cs braces.0 braces.2.0 braces.2.1 d braces.2.2 (omega arith) in
      step _ (ap (take LeftBrace) (behind_gives word.1) ∙ take_gives braces.1) (step _ clauses (step _ (take_gives braces.2.2) (ap Some (statement_is (select_statement cs) span from to s.1 s.2))))

  -- what a `switch` looks at, which is read as a statement first
  record ReadsGuard (g : Guard) (from to : Cursor) : Type 0 where
    statement : Statement
    place : Cursor
    read : read_simple text r below true from ≡ Some (statement, place)
    begins : is_next begins_expression from ≡ true
    no_semicolon : stands Semicolon place ≡ false
    guard : read_guard text r below statement place ≡ Some (g, to)

  value-guard : (e : Expression) (from to : Cursor) {after : Cursor} → SpellsExpression text as_expression e from to → FitsHeader e → expression_depth e ≤ below → TakesToken LeftBrace to after → ReadsGuard (of_value (present_expression e)) from to
  unfolding read_guard same_kind
  value-guard e from to s h d t = record {
    statement = as_statement e from to;
    place = to;
    read = read_simple-expression text r below complete e from to s h d (ends_before true t refl refl);
    begins = (expression_begins text e from to s);
    no_semicolon = stands_other t Semicolon refl;
    guard = when_false _ (stands_other t Dot refl) refl;
  }

  -- `.(type)`
  type_guard-complete : (n : Option Identifier) (e : Expression) (form : StatementForm) (span : Span) (from to : Cursor) → type_guard form ≡ Some (of_type n e) → (token Dot ⨾ in_parentheses (token TypeKeyword)) from to → read_guard text r below (statement_node form span) from ≡ Some (of_type n e, to)
  unfolding read_guard
  type_guard-complete n e form span from to is s =
      let brackets = s.2 in
      when_true _ (stands_gives s.1) (step _ is (step _ (ap (take LeftParenthesis) (behind_gives s.1) ∙ take_gives brackets.1) (step _ (take_gives brackets.2.1) (step _ (take_gives brackets.2.2) refl))))

  type-guard : (n : Option Identifier) (e : Expression) (from between place to : Cursor) → guard_name text n from between → SpellsExpression text as_expression e between place → (token Dot ⨾ in_parentheses (token TypeKeyword)) place to → FitsHeader e → IsPrimary e → expression_depth e ≤ below → ReadsGuard (of_type n e) from to
  unfolding SpellsStatement SpellsStatementForm SpellsExpressions SpellsMore below_statement expressions_depth same_kind
  type-guard None e from between place to p s t h k d =
      let spelled = subst (λ start. SpellsExpression text as_expression e start place) (sym p) s in
      record {
        statement = as_statement e from place;
        place = place;
        read = read_simple-expression text r below complete e from place spelled h d (at_guard t.1 t.2.1 t.2.2.1);
        begins = (expression_begins text e from place spelled);
        no_semicolon = stands_other t.1 Semicolon refl;
        guard = type_guard-complete None e (expression_statement e) (span_between from place) place to (only_true (primary_is e k) refl) t;
      }
  type-guard (Some n) e from between place to p s t h k d =
      let form : StatementForm = define_statement (n ∷ []) (expression_and e no_expression) in
      let spelled : SpellsStatement text (statement_node form (span_between from place)) from place = ((p.0, (p.0, p.1, refl), (between, p.2, (place, s, refl))), refl, refl) in
      record {
        statement = statement_node form (span_between from place);
        place = place;
        read = read_simple-complete text r below complete true form (span_between from place) from place spelled (h, tt) (omega arith) (at_guard t.1 t.2.1 t.2.2.1);
        begins = next_gives p.1.0.0 begins_expression;
        no_semicolon = stands_other t.1 Semicolon refl;
        guard = type_guard-complete (Some n) e form (span_between from place) place to (only_true (primary_is e k) refl) t;
      }

  record ReadsSwitchHeader (init : OptionalStatement) (has_semicolon : Bool) (g : Guard) (from to : Cursor) : Type 0 where
    first : Option Statement
    place : Cursor
    header : read_switch_header text r below from ≡ Some (header_of init has_semicolon first, place)
    guard : read_switch_guard text r below first place ≡ Some (g, to)

  -- a header that looks at something
  switch_header-complete : (init : OptionalStatement) (has_semicolon : Bool) (g : Guard) (from between to : Cursor) → initial init has_semicolon (SpellsOptionalStatement text init) from between → InitFitsHeader init → optional_statement_depth init ≤ below → ReadsGuard g between to → ReadsSwitchHeader init has_semicolon g from to
  unfolding read_switch_guard
  switch_header-complete missing_statement false g from between to p h d read = record {
    first = Some read.statement;
    place = read.place;
    header = ap (read_switch_header text r below) p ∙ when_false _ (stands_not begins_expression LeftBrace between refl read.begins) (header-alone text r below complete read.statement between read.place read.read read.begins read.no_semicolon);
    guard = read.guard;
  }
  switch_header-complete (present_statement x) false g from between to p h d read = absurd p
  switch_header-complete init true g from between to p h d read =
      let opens = open_before between read.begins in
      record {
        first = None;
        place = between;
        header = when_false _ (initial-no_brace text init from between p h opens) (header-initial text r below complete init from between p h d opens);
        guard = when_false _ (stands_not begins_expression LeftBrace between refl read.begins) (step _ read.read read.guard);
      }

  -- one that looks at nothing
  switch_header-bare : (init : OptionalStatement) (has_semicolon : Bool) (from to : Cursor) {after : Cursor} → initial init has_semicolon (SpellsOptionalStatement text init) from to → InitFitsHeader init → optional_statement_depth init ≤ below → TakesToken LeftBrace to after → ReadsSwitchHeader init has_semicolon (of_value missing_expression) from to
  unfolding read_switch_guard
  switch_header-bare missing_statement false from to p h d t =
      let brace = ap (stands LeftBrace) p ∙ stands_gives t in
      record {
        first = None;
        place = from;
        header = when_true _ brace refl;
        guard = when_true _ brace (λ i. Some (of_value missing_expression, p i));
      }
  switch_header-bare (present_statement x) false from to p h d t = absurd p
  switch_header-bare init true from to p h d t =
      let opens = next_gives t is_closing in
      record {
        first = None;
        place = to;
        header = when_false _ (initial-no_brace text init from to p h opens) (header-initial text r below complete init from to p h d opens);
        guard = when_true _ (stands_gives t) refl;
      }

  switch_after : {kind : TokenKind} (init : OptionalStatement) (has_semicolon : Bool) (g : Guard) (cs : CaseClauses) (span : Span) (from start place to : Cursor) → TakesToken kind from start → (read : ReadsSwitchHeader init has_semicolon g start place) → in_braces (SpellsCases text cs) place to → cases_depth cs ≤ below → span.start ≡ start_at from → span.end ≡ to.end → read_switch text r below from ≡ Some (statement_node (switch_form text r below (header_of init has_semicolon read.first) g cs) span, to)
  unfolding read_switch
  switch_after init has_semicolon g cs span from start place to t read s d p q =
      let clauses = cases-complete (suc (length s.0.left)) cs s.0 s.2.0 s.2.1 d s.2.2 (omega arith) in
      let form : StatementForm = switch_form text r below (header_of init has_semicolon read.first) g cs in
      step _ (ap (read_switch_header text r below) (behind_gives t) ∙ read.header) (step _ read.guard (step _ (take_gives s.1) (step _ clauses (step _ (take_gives s.2.2) (ap Some (statement_is form span from to p q))))))

  pub switch-complete : (init : OptionalStatement) (has_semicolon : Bool) (tag : OptionalExpression) (cs : CaseClauses) (span : Span) (from to : Cursor) → SpellsStatement text (statement_node (switch_statement init has_semicolon tag cs) span) from to → below_statement (switch_statement init has_semicolon tag cs) ≤ below → read_switch text r below from ≡ Some (statement_node (switch_statement init has_semicolon tag cs) span, to)
  unfolding SpellsStatement SpellsStatementForm SpellsOptional below_statement optional_depth
  switch-complete init has_semicolon missing_expression cs span from to s d =
      let word = s.0.1.1 in
      let body = word.2.2 in
      let spelled = subst (λ place. initial init has_semicolon (SpellsOptionalStatement text init) word.0 place) body.1 word.2.1 in
      let header = switch_header-bare init has_semicolon word.0 body.0 spelled s.0.0 (omega arith) body.2.1 in
      switch_after init has_semicolon (of_value missing_expression) cs span from word.0 body.0 to word.1 header body.2 (omega arith) s.1 s.2
  switch-complete init has_semicolon (present_expression e) cs span from to s d =
      let word = s.0.1.1 in
      let body = word.2.2 in
      let guard = value-guard e word.2.0 body.0 body.1 s.0.1.0 (omega arith) body.2.1 in
      let header = switch_header-complete init has_semicolon (of_value (present_expression e)) word.0 word.2.0 body.0 word.2.1 s.0.0 (omega arith) guard in
      switch_after init has_semicolon (of_value (present_expression e)) cs span from word.0 body.0 to word.1 header body.2 (omega arith) s.1 s.2

  pub type_switch-complete : (init : OptionalStatement) (has_semicolon : Bool) (n : Option Identifier) (e : Expression) (cs : CaseClauses) (span : Span) (from to : Cursor) → SpellsStatement text (statement_node (type_switch_statement init has_semicolon n e cs) span) from to → below_statement (type_switch_statement init has_semicolon n e cs) ≤ below → read_switch text r below from ≡ Some (statement_node (type_switch_statement init has_semicolon n e cs) span, to)
  unfolding SpellsStatement SpellsStatementForm below_statement
  type_switch-complete init has_semicolon n e cs span from to s d =
      let word = s.0.1.1.1 in
      let name = word.2.2 in
      let operand = name.2 in
      let dot = operand.2 in
      let guard = type-guard n e word.2.0 name.0 operand.0 dot.2.0 name.1 operand.1 (dot.0, dot.1, dot.2.1) s.0.1.0 s.0.1.1.0 (omega arith) in
      let header = switch_header-complete init has_semicolon (of_type n e) word.0 word.2.0 dot.2.0 word.2.1 s.0.0 (omega arith) guard in
      switch_after init has_semicolon (of_type n e) cs span from word.0 dot.2.0 to word.1 header dot.2.2 (omega arith) s.1 s.2
