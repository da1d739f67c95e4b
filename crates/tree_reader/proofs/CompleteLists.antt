-- The reader gives each list of expressions and statements that is spelled, where it gives what they list.
use Rattle.std.proofs.Common.{◌≡◌, ℕ, zero, suc, ◌≤◌, ◌<◌, Bool, true, false, true≢false, List, length, Some, None, refl, sym, subst, ap, ◌∙◌, inl, inr, arith}
use Rattle.std.specs.Prelude.{if◌then◌else◌, not, ◌||◌}
use Rattle.lexer.specs.Spelling.{same_kind}
use Rattle.lexer.specs.declared.token.TokenKind.{TokenKind}
use Rattle.lexer.specs.declared.token.TokenKind.TheVariants.{Identifier as identifier_kind, Ellipsis, LeftParenthesis, RightParenthesis, LeftBracket, RightBracket, LeftBrace, RightBrace, Comma, Semicolon, Dot, Colon}
use Rattle.tree.specs.declared.span.Span.{Span}
use Rattle.tree.specs.Syntax.{Expression, expression_node, name_expression, key_value, Expressions, no_expression, expression_and, OptionalExpression, missing_expression, present_expression, Statements, no_statement, statement_and}
use Rattle.tree.specs.Depth.{expression_depth, below_expression, expressions_depth, optional_depth, statements_depth}
use Rattle.meaning.specs.Cursor.{GoText, Cursor, TakesToken, token, optional, only_if, is_next, is_closing}
use Rattle.meaning.specs.WellFormed.{FitHeader, OptionalFitsHeader}
use Rattle.meaning.specs.Grammar.{Position, as_expression, as_value, as_element, arguments, elements, in_braces, block, SpellsExpression, SpellsForm, SpellsExpressions, SpellsMore, SpellsOptional, SpellsStatements}
use Rattle.tree_reader.specs.Reading.{Read, ◌>>=◌, stands, behind, past, take_semicolon, steps}
use Rattle.tree_reader.specs.Reader.{Readers, binary_operator, is_end, ends_statements, read_any, read_more_expressions, read_expressions, read_expression_unless, read_element, read_elements, read_braced_elements, read_arguments, read_statements, read_block}
use Rattle.tree_reader.specs.Claims.{StandsIn, IsLooser, CannotGoOn, AreComplete}
use Rattle.tree_reader.proofs.Taken.{step, when_true, when_false, take_gives, stands_gives, stands_other, behind_gives, next_gives, past_gives, past_other, stands_not, next_excluded, of_next_none, take_semicolon_gives, before_semicolon, skip_gives, span_is, node_is}
use Rattle.tree_reader.proofs.Lengths.{token_shorter, expression_shorter, statement_shorter, semicolon_longest, semicolons_longest}
use Rattle.tree_reader.proofs.Begins.{begins_expression, begins_statement, expression_begins, statement_begins, is_key_value, element_as_value, element_begins, begins_element, level_high}

-- the tokens that end an expression in a list or in brackets
abbrev pub ends_expression : TokenKind → Bool
ends_expression RightParenthesis = true
ends_expression RightBracket = true
ends_expression RightBrace = true
ends_expression Comma = true
ends_expression Colon = true
ends_expression Semicolon = true
ends_expression Ellipsis = true
ends_expression _ = false

end_is_no_operator : (k : TokenKind) → ends_expression k ≡ true → binary_operator k ≡ None
end_is_no_operator RightParenthesis e = refl
end_is_no_operator RightBracket e = refl
end_is_no_operator RightBrace e = refl
end_is_no_operator Comma e = refl
end_is_no_operator Colon e = refl
end_is_no_operator Semicolon e = refl
end_is_no_operator Ellipsis e = refl
end_is_no_operator _ e = absurd (true≢false (sym e))

pub ended : (header : Bool) (least : ℕ) (place : Cursor)
    → is_next ends_expression place ≡ true
    → CannotGoOn header least place
ended header least place h = record {
  dot = λ e. absurd (true≢false (sym e ∙ stands_not ends_expression Dot place refl h));
  bracket = stands_not ends_expression LeftBracket place refl h;
  parenthesis = stands_not ends_expression LeftParenthesis place refl h;
  brace = λ e. stands_not ends_expression LeftBrace place refl h;
  operator = subst (IsLooser least) (sym (of_next_none ends_expression binary_operator place end_is_no_operator h)) tt;
}

-- expressions that can stand where they are read
abbrev pub StandIn : Bool → Expressions → Type 0
StandIn true es = FitHeader es
StandIn false es = Unit {0}

abbrev pub OptionalStandsIn : Bool → OptionalExpression → Type 0
OptionalStandsIn true e = OptionalFitsHeader e
OptionalStandsIn false e = Unit {0}

first_stands : (header : Bool) (e : Expression) (es : Expressions)
    → StandIn header (expression_and e es)
    → StandsIn header e
first_stands true e es h = h.0
first_stands false e es h = tt

others_stand : (header : Bool) (e : Expression) (es : Expressions)
    → StandIn header (expression_and e es)
    → StandIn header es
others_stand true e es h = h.1
others_stand false e es h = tt

present_stands : (header : Bool) (e : Expression) → OptionalStandsIn header (present_expression e) → StandsIn header e
present_stands true e h = h
present_stands false e h = tt

pub optional_follows : (test : TokenKind → Bool) (kind : TokenKind) (from to : Cursor)
    → test kind ≡ true
    → optional (token kind) from to
    → is_next test to ≡ true
    → is_next test from ≡ true
optional_follows test kind from to e (inl p) h = ap (is_next test) p ∙ h
optional_follows test kind from to e (inr t) h = next_gives t test ∙ e

pub only_if_follows : (test : TokenKind → Bool) (kind : TokenKind) (b : Bool) (from to : Cursor)
    → test kind ≡ true
    → only_if b (token kind) from to
    → is_next test to ≡ true
    → is_next test from ≡ true
only_if_follows test kind true from to e t h = next_gives t test ∙ e
only_if_follows test kind false from to e p h = ap (is_next test) p ∙ h

pub past_optional : (kind : TokenKind) (from to : Cursor)
    → optional (token kind) from to
    → stands kind to ≡ false
    → past kind from ≡ to
past_optional kind from to (inl p) e = ap (past kind) p ∙ past_other kind e
past_optional kind from to (inr t) e = past_gives t

pub moved : (kind : TokenKind) (from other to : Cursor)
    → from ≡ other
    → TakesToken kind other to
    → TakesToken kind from to
moved kind from other to p t = subst (λ place. TakesToken kind place to) (sym p) t

abbrev is_item_end : TokenKind → Bool
is_item_end Comma = true
is_item_end RightBrace = true
is_item_end _ = false

pub closing_is_end : (k : TokenKind) → (not (is_closing k) || is_end k) ≡ true
closing_is_end identifier_kind = refl
closing_is_end _ = refl

pub beginning_is_no_end : (k : TokenKind) → (not (begins_statement k) || not (ends_statements k)) ≡ true
beginning_is_no_end identifier_kind = refl
beginning_is_no_end _ = refl

module _ (text : GoText) where
  pub more_follows : (test : TokenKind → Bool) (place : Position) (es : Expressions) (from to : Cursor)
      → test Comma ≡ true
      → SpellsMore text place es from to
      → is_next test to ≡ true
      → is_next test from ≡ true
  unfolding SpellsMore
  more_follows test place no_expression from to e p h = ap (is_next test) p ∙ h
  more_follows test place (expression_and first es) from to e s h = next_gives s.1 test ∙ e

  more_cannot_go_on : (header : Bool) (place : Position) (es : Expressions) (from to : Cursor)
      → SpellsMore text place es from to
      → CannotGoOn header 1 to
      → CannotGoOn header 1 from
  unfolding SpellsMore
  more_cannot_go_on header place no_expression from to p c = subst (CannotGoOn header 1) (sym p) c
  more_cannot_go_on header place (expression_and first es) from to s c =
      ended header 1 from (next_gives s.1 ends_expression)

  module _ (r : Readers) (below : ℕ) (complete : AreComplete text below r) where
    pub read_more_expressions-complete : (header : Bool) (n : ℕ) (es : Expressions) (from to : Cursor)
        → SpellsMore text as_expression es from to
        → StandIn header es
        → expressions_depth es ≤ below
        → CannotGoOn header 1 to
        → stands Comma to ≡ false
        → length from.left < n
        → read_more_expressions text r header n from ≡ Some (es, to)
    unfolding read_more_expressions SpellsMore expressions_depth
    read_more_expressions-complete header zero es from to s h d c e short = absurd (omega arith)
    read_more_expressions-complete header (suc n) no_expression from to p h d c e short =
        when_false _ (ap (stands Comma) p ∙ e) (λ i. Some (no_expression, p i))
    read_more_expressions-complete header (suc n) (expression_and first es) from to s h d c e short =
        let fewer : length s.2.0.left < n =
        omega (arith, token_shorter Comma from s.0 s.1, expression_shorter text as_expression first s.0 s.2.0 s.2.1) in
        let follows : CannotGoOn header 1 s.2.0 = more_cannot_go_on header as_expression es s.2.0 to s.2.2 c in
        when_true _ (stands_gives s.1)
        (step _ (ap (r.read_expression header 1) (behind_gives s.1)
        ∙ complete.expression header 1 s.0 s.2.0 first s.2.1 (level_high first) (first_stands header first es h)
        (omega arith) follows)
        (step _ (read_more_expressions-complete header n es s.2.0 to s.2.2 (others_stand header first es h)
        (omega arith) c e fewer) refl))

    pub read_expressions-complete : (header : Bool) (es : Expressions) (from to : Cursor)
        → SpellsExpressions text as_expression es from to
        → StandIn header es
        → expressions_depth es ≤ below
        → CannotGoOn header 1 to
        → stands Comma to ≡ false
        → read_expressions text r header from ≡ Some (es, to)
    unfolding read_expressions SpellsExpressions expressions_depth
    read_expressions-complete header no_expression from to s h d c e = absurd s
    read_expressions-complete header (expression_and first es) from to s h d c e =
        let follows : CannotGoOn header 1 s.0 = more_cannot_go_on header as_expression es s.0 to s.2 c in
        step _ (complete.expression header 1 from s.0 first s.1 (level_high first) (first_stands header first es h)
        (omega arith) follows)
        (step _ (read_more_expressions-complete header (steps s.0) es s.0 to s.2 (others_stand header first es h)
        (omega arith) c e (omega arith)) refl)

    pub read_expression_unless-complete : (kind : TokenKind) (header : Bool) (e : OptionalExpression) (from to : Cursor)
        → SpellsOptional text as_expression e from to
        → begins_expression kind ≡ false
        → (e ≡ missing_expression → stands kind to ≡ true)
        → OptionalStandsIn header e
        → optional_depth e ≤ below
        → CannotGoOn header 1 to
        → read_expression_unless text r kind header from ≡ Some (e, to)
    unfolding read_expression_unless SpellsOptional optional_depth
    read_expression_unless-complete kind header missing_expression from to p k m h d c =
        when_true _ (ap (stands kind) p ∙ m refl) (λ i. Some (missing_expression, p i))
    read_expression_unless-complete kind header (present_expression e) from to s k m h d c =
        when_false _ (stands_not begins_expression kind from k (expression_begins text e from to s))
        (step _ (complete.expression header 1 from to e s (level_high e) (present_stands header e h) d c) refl)

    pub read_any-complete : (e : Expression) (from to : Cursor)
        → SpellsExpression text as_expression e from to
        → expression_depth e ≤ below
        → is_next ends_expression to ≡ true
        → read_any text r from ≡ Some (e, to)
    read_any-complete e from to s d h = complete.expression false 1 from to e s (level_high e) tt d (ended false 1 to h)

    pub read_value-complete : (e : Expression) (from to : Cursor)
        → SpellsExpression text as_value e from to
        → expression_depth e ≤ below
        → is_next ends_expression to ≡ true
        → r.read_value from ≡ Some (e, to)
    read_value-complete e from to s d h = complete.value from to e s d (ended false 1 to h)

    read_element-other : (e : Expression) (from to : Cursor)
        → is_key_value e ≡ false
        → SpellsExpression text as_element e from to
        → expression_depth e ≤ below
        → is_next ends_expression to ≡ true
        → stands Colon to ≡ false
        → read_element text r from ≡ Some (e, to)
    unfolding read_element
    read_element-other e from to k s d h c =
        step _ (read_value-complete e from to (element_as_value text e from to k s) d h) (when_false _ c refl)

    read_element-complete : (e : Expression) (from to : Cursor)
        → SpellsExpression text as_element e from to
        → expression_depth e ≤ below
        → is_next ends_expression to ≡ true
        → stands Colon to ≡ false
        → read_element text r from ≡ Some (e, to)
    unfolding read_element SpellsExpression SpellsForm expression_depth below_expression
    read_element-complete (expression_node (key_value k v) span) from to s d h c =
        let colon = s.0.1.2.1 in
        step _ (read_value-complete k from s.0.1.0 s.0.1.1 (omega arith) (next_gives colon ends_expression))
        (when_true _ (stands_gives colon)
        (step _ (ap r.read_value (behind_gives colon) ∙ read_value-complete v s.0.1.2.0 to s.0.1.2.2
        (omega arith) h) (ap Some (node_is (key_value k v) span from to s.1 s.2))))
    read_element-complete (expression_node (name_expression name) span) from to s d h c =
        read_element-other (expression_node (name_expression name) span) from to refl s d h c
    read_element-complete (expression_node form span) from to s d h c =
        read_element-other (expression_node form span) from to refl s d h c

    abbrev ElementsAreRead : ℕ → Cursor → Type 0
    ElementsAreRead n close =
        (es : Expressions) (from : Cursor) → elements es (SpellsExpressions text as_element es) from close
        → expressions_depth es ≤ below → length from.left < n → read_elements text r n from ≡ Some (es, close)

    -- what follows an element
    abbrev go_on_elements : ℕ → Expression → Cursor → Read Expressions
    go_on_elements n e place =
        if stands Comma place then (do
          more ← read_elements text r n (behind place)
          Some (expression_and e more.0, more.1)
        ) else Some (expression_and e no_expression, place)

    after_element : (n : ℕ) (e : Expression) (es : Expressions) (from middle close to : Cursor)
        → ElementsAreRead n close
        → SpellsMore text as_element es from middle
        → optional (token Comma) middle close
        → TakesToken RightBrace close to
        → expressions_depth es ≤ below
        → length from.left ≤ n
        → go_on_elements n e from ≡ Some (expression_and e es, close)
    unfolding SpellsExpressions SpellsMore expressions_depth same_kind
    after_element n e no_expression from middle close to more p (inl q) t d short =
        when_false _ (ap (stands Comma) (p ∙ q) ∙ stands_other t Comma refl)
        (ap (λ place. Some (expression_and e no_expression, place)) (p ∙ q))
    after_element n e no_expression from middle close to more p (inr c) t d short =
        let comma = moved Comma from middle close p c in
        let fewer : length close.left < n = omega (arith, token_shorter Comma from close comma) in
        when_true _ (stands_gives comma)
        (step _ (ap (read_elements text r n) (behind_gives comma) ∙ more no_expression close refl
        (omega arith) fewer) refl)
    after_element n e (expression_and first es) from middle close to more s o t d short =
        let fewer : length s.0.left < n = omega (arith, token_shorter Comma from s.0 s.1) in
        when_true _ (stands_gives s.1)
        (step _ (ap (read_elements text r n) (behind_gives s.1) ∙ more (expression_and first es) s.0
        (middle, s.2, o) d fewer) refl)

    pub read_elements-complete : (n : ℕ) (es : Expressions) (from close to : Cursor)
        → elements es (SpellsExpressions text as_element es) from close
        → TakesToken RightBrace close to
        → expressions_depth es ≤ below
        → length from.left < n
        → read_elements text r n from ≡ Some (es, close)
    unfolding read_elements SpellsExpressions expressions_depth same_kind
    read_elements-complete zero es from close to s t d short = absurd (omega arith)
    read_elements-complete (suc n) no_expression from close to p t d short =
        when_true _ (ap (stands RightBrace) p ∙ stands_gives t) (λ i. Some (no_expression, p i))
    read_elements-complete (suc n) (expression_and e es) from close to s t d short =
        let place : Cursor = s.1.0 in
        let follows : (test : TokenKind → Bool) → test Comma ≡ true → test RightBrace ≡ true
        → is_next test place ≡ true =
        λ test comma brace.
        more_follows test as_element es place s.0 comma s.1.2
        (optional_follows test Comma s.0 close comma s.2 (next_gives t test ∙ brace)) in
        let fewer : length place.left ≤ n = omega (arith, expression_shorter text as_element e from place s.1.1) in
        let read : read_element text r from ≡ Some (e, place) =
        read_element-complete e from place s.1.1 (omega arith) (follows ends_expression refl refl)
        (stands_not is_item_end Colon place refl (follows is_item_end refl refl)) in
        when_false _ (stands_not begins_element RightBrace from refl (element_begins text e from place s.1.1))
        (step _ read (after_element n e es place s.0 close to
        (λ others at spelled deep less. read_elements-complete n others at close to spelled t deep less) s.1.2 s.2 t
        (omega arith) fewer))

    pub read_braced_elements-complete : (es : Expressions) (from to : Cursor)
        → in_braces (elements es (SpellsExpressions text as_element es)) from to
        → expressions_depth es ≤ below
        → read_braced_elements text r from ≡ Some (es, to)
    unfolding read_braced_elements
    read_braced_elements-complete es from to s d =
        step _ (take_gives s.1)
        (step _ (read_elements-complete (steps s.0) es s.0 s.2.0 to s.2.1 s.2.2 d (omega arith))
        (step _ (take_gives s.2.2) refl))

    -- what follows an argument
    abbrev go_on_arguments : ℕ → Expression → Cursor → Read (Expressions × Bool)
    go_on_arguments n e place =
        if stands Ellipsis place
        then Some ((expression_and e no_expression, true), past Comma (behind place))
        else if stands Comma place then (do
          more ← read_arguments text r n (behind place)
          Some ((expression_and e more.0.0, more.0.1), more.1)
        ) else Some ((expression_and e no_expression, false), place)

    abbrev ArgumentsAreRead : ℕ → Cursor → Type 0
    ArgumentsAreRead n close =
        (es : Expressions) (ellipsis : Bool) (from : Cursor)
        → arguments es ellipsis (SpellsExpressions text as_expression es) from close → expressions_depth es ≤ below
        → length from.left < n → read_arguments text r n from ≡ Some ((es, ellipsis), close)

    after_argument : (n : ℕ) (e : Expression) (es : Expressions) (ellipsis : Bool) (from middle last close to : Cursor)
        → ArgumentsAreRead n close
        → SpellsMore text as_expression es from middle
        → only_if ellipsis (token Ellipsis) middle last
        → optional (token Comma) last close
        → TakesToken RightParenthesis close to
        → expressions_depth es ≤ below
        → length from.left ≤ n
        → go_on_arguments n e from ≡ Some ((expression_and e es, ellipsis), close)
    unfolding SpellsExpressions SpellsMore expressions_depth same_kind
    after_argument n e no_expression true from middle last close to more p o c t d short =
        let dots = moved Ellipsis from middle last p o in
        let comma : past Comma (behind from) ≡ close =
        ap (past Comma) (behind_gives dots) ∙ past_optional Comma last close c (stands_other t Comma refl) in
        when_true _ (stands_gives dots) (ap (λ place. Some ((expression_and e no_expression, true), place)) comma)
    after_argument n e no_expression false from middle last close to more p o (inl q) t d short =
        let ends : from ≡ close = p ∙ (o ∙ q) in
        when_false _ (ap (stands Ellipsis) ends ∙ stands_other t Ellipsis refl)
        (when_false _ (ap (stands Comma) ends ∙ stands_other t Comma refl)
        (ap (λ place. Some ((expression_and e no_expression, false), place)) ends))
    after_argument n e no_expression false from middle last close to more p o (inr c) t d short =
        let comma = moved Comma from last close (p ∙ o) c in
        let fewer : length close.left < n = omega (arith, token_shorter Comma from close comma) in
        when_false _ (stands_other comma Ellipsis refl)
        (when_true _ (stands_gives comma)
        (step _ (ap (read_arguments text r n) (behind_gives comma) ∙ more no_expression false close refl
        (omega arith) fewer) refl))
    after_argument n e (expression_and first es) ellipsis from middle last close to more s o c t d short =
        let fewer : length s.0.left < n = omega (arith, token_shorter Comma from s.0 s.1) in
        when_false _ (stands_other s.1 Ellipsis refl)
        (when_true _ (stands_gives s.1)
        (step _ (ap (read_arguments text r n) (behind_gives s.1) ∙ more (expression_and first es) ellipsis s.0
        (middle, s.2, (last, o, c)) d fewer) refl))

    pub read_arguments-complete : (n : ℕ) (es : Expressions) (ellipsis : Bool) (from close to : Cursor)
        → arguments es ellipsis (SpellsExpressions text as_expression es) from close
        → TakesToken RightParenthesis close to
        → expressions_depth es ≤ below
        → length from.left < n
        → read_arguments text r n from ≡ Some ((es, ellipsis), close)
    unfolding read_arguments SpellsExpressions expressions_depth same_kind
    read_arguments-complete zero es ellipsis from close to s t d short = absurd (omega arith)
    read_arguments-complete (suc n) no_expression true from close to s t d short = absurd s
    read_arguments-complete (suc n) no_expression false from close to p t d short =
        when_true _ (ap (stands RightParenthesis) p ∙ stands_gives t) (λ i. Some ((no_expression, false), p i))
    read_arguments-complete (suc n) (expression_and e es) ellipsis from close to s t d short =
        let place : Cursor = s.1.0 in
        let comma : is_next ends_expression s.2.0 ≡ true =
        optional_follows ends_expression Comma s.2.0 close refl s.2.2 (next_gives t ends_expression) in
        let dots : is_next ends_expression s.0 ≡ true =
        only_if_follows ends_expression Ellipsis ellipsis s.0 s.2.0 refl s.2.1 comma in
        let follows : is_next ends_expression place ≡ true =
        more_follows ends_expression as_expression es place s.0 refl s.1.2 dots in
        let fewer : length place.left ≤ n = omega (arith, expression_shorter text as_expression e from place s.1.1) in
        when_false _ (stands_not begins_expression RightParenthesis from refl
        (expression_begins text e from place s.1.1))
        (step _ (read_any-complete e from place s.1.1 (omega arith) follows)
        (after_argument n e es ellipsis place s.0 s.2.0 close to
        (λ others b at spelled deep less. read_arguments-complete n others b at close to spelled t deep less) s.1.2
        s.2.1 s.2.2 t (omega arith) fewer))

    -- what is read behind semicolons
    abbrev go_on_statements : ℕ → Cursor → Read Statements
    go_on_statements n first =
        if is_next ends_statements first then Some (no_statement, first)
        else (do
          s ← r.read_statement first
          end ← take_semicolon s.1
          more ← read_statements text r n end
          Some (statement_and s.0 more.0, more.1)
        )

    pub read_statements-complete : (n : ℕ) (ss : Statements) (from to : Cursor)
        → SpellsStatements text ss from to
        → statements_depth ss ≤ below
        → is_next ends_statements to ≡ true
        → length from.left < n
        → read_statements text r n from ≡ Some (ss, to)
    unfolding read_statements SpellsStatements statements_depth
    read_statements-complete zero ss from to s d e short = absurd (omega arith)
    read_statements-complete (suc n) no_statement from to s d e short =
        ap (go_on_statements n) (skip_gives s (stands_not ends_statements Semicolon to refl e)) ∙ when_true _ e refl
    read_statements-complete (suc n) (statement_and first ss) from to s d e short =
        let begins : is_next begins_statement s.0 ≡ true = statement_begins text first s.0 s.2.0 s.2.1.0 s.2.1.1 in
        let ends : is_next is_end s.2.0 ≡ true = before_semicolon is_end s.2.0 s.2.2.0 refl closing_is_end s.2.2.1 in
        let fewer : length s.2.2.0.left < n =
        omega (
          arith,
          semicolons_longest s.1,
          statement_shorter text first s.2.1.0 s.0 s.2.0 s.2.1.1,
          semicolon_longest s.2.0 s.2.2.0 s.2.2.1,
        ) in
        ap (go_on_statements n) (skip_gives s.1 (stands_not begins_statement Semicolon s.0 refl begins))
        ∙ when_false _ (next_excluded begins_statement ends_statements s.0 beginning_is_no_end begins)
        (step _ (complete.statement s.0 s.2.0 first s.2.1.1 s.2.1.0 (omega arith) ends)
        (step _ (take_semicolon_gives s.2.2.1)
        (step _ (read_statements-complete n ss s.2.2.0 to s.2.2.2 (omega arith) e fewer) refl)))

    pub read_block-complete : (ss : Statements) (braces : Span) (from to : Cursor)
        → block braces (SpellsStatements text ss) from to
        → statements_depth ss ≤ below
        → read_block text r from ≡ Some (record { statements = ss; braces = braces }, to)
    unfolding read_block
    read_block-complete ss braces from to s d =
        step _ (take_gives s.0.1)
        (step _ (read_statements-complete (steps s.0.0) ss s.0.0 s.0.2.0 s.0.2.1 d
        (next_gives s.0.2.2 ends_statements) (omega arith))
        (step _ (take_gives s.0.2.2)
        (λ i. Some (record { statements = ss; braces = span_is braces from to s.1 s.2 i }, to))))
