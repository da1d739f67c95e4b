-- How statements begin, and what can stand behind them.
use Rattle.std.proofs.Common.{◌≡◌, ℕ, Bool, true, false, List, [], ◌∷◌, refl, sym, ap, ◌∙◌, inl, inr}
use Rattle.std.specs.Prelude.{not, ◌||◌}
use Rattle.lexer.specs.Spelling.{same_kind}
use Rattle.lexer.specs.declared.token.TokenKind.{TokenKind}
use Rattle.lexer.specs.declared.token.TokenKind.TheVariants.{Identifier as identifier_kind, RightBrace, RightParenthesis, Semicolon, Colon}
use Rattle.tree.specs.Syntax.{Identifier, Expressions, no_expression, expression_and, OptionalExpression, missing_expression, present_expression, Statement, StatementForm, expression_statement, send_statement, increment_statement, decrement_statement, assignment, operator_assignment, define_statement}
use Rattle.meaning.specs.Cursor.{GoText, Cursor, TakesToken, TakesSemicolon, semicolon, is_next, is_closing, identifiers}
use Rattle.meaning.specs.WellFormed.{StatementFitsHeader, IsCommunication, IsKept}
use Rattle.meaning.specs.Grammar.{as_expression, SpellsExpressions, SpellsMore, SpellsStatementForm, SpellsStatement, SpellsOptional, form_of}
use Rattle.tree_reader.specs.Reading.{stands}
use Rattle.tree_reader.specs.Reader.{is_end}
use Rattle.tree_reader.specs.Claims.{CannotGoOn}
use Rattle.tree_reader.proofs.Taken.{next_gives, stands_other, next_implied, next_excluded}
use Rattle.tree_reader.proofs.Begins.{begins_expression, begins_statement, expression_begins, statement_begins}
use Rattle.tree_reader.proofs.CompleteStatementsLabels.{labels, BeginsNoLabel, after_name, expression-label}
use Rattle.tree_reader.proofs.CompleteStatementsSimple.{expressions-begin, IsSimpleIn, stops, follows_simple, Ends, cannot_go_on, assigns}

-- A simple statement of a header can stand in one, and one that a clause waits for outside of one.
pub fits_header : (form : StatementForm) → StatementFitsHeader form → IsSimpleIn true form
fits_header (expression_statement e) h = h
fits_header (send_statement c v) h = h
fits_header (increment_statement e) h = h
fits_header (decrement_statement e) h = h
fits_header (assignment ls rs) h = h
fits_header (operator_assignment op l r) h = h
fits_header (define_statement ns rs) h = h
fits_header _ h = absurd h

pub communicates : (form : StatementForm) → IsCommunication form → IsSimpleIn false form
communicates (expression_statement e) h = tt
communicates (send_statement c v) h = (tt, tt)
communicates (assignment ls rs) h = (tt, tt)
communicates (define_statement ns rs) h = tt
communicates _ h = absurd h

end_stops : (header : Bool) (k : TokenKind) → (not (is_end k) || stops header k) ≡ true
end_stops header Semicolon = refl
end_stops header RightParenthesis = refl
end_stops header RightBrace = refl
end_stops header _ = refl

end_follows : (k : TokenKind) → (not (is_end k) || follows_simple k) ≡ true
end_follows Semicolon = refl
end_follows RightParenthesis = refl
end_follows RightBrace = refl
end_follows _ = refl

pub end_stop : (header : Bool) (least : ℕ) (place : Cursor) → is_next is_end place ≡ true → CannotGoOn header least place
end_stop header least place e = cannot_go_on header least place (next_implied is_end (stops header) place (end_stops header) e)

-- what ends a statement
pub ends : (header : Bool) (place : Cursor) → is_next is_end place ≡ true → Ends header place
ends header place e = record {
  stop = end_stop header 1 place e;
  next = next_implied is_end follows_simple place end_follows e;
}

pub ends_before : (header : Bool) {kind : TokenKind} {from to : Cursor} → TakesToken kind from to → stops header kind ≡ true → follows_simple kind ≡ true → Ends header from
ends_before header {from = from} t p q = record {
  stop = cannot_go_on header 1 from (next_gives t (stops header) ∙ p);
  next = next_gives t follows_simple ∙ q;
}

not_closing : (k : TokenKind) → (not (begins_expression k) || not (is_closing k)) ≡ true
not_closing RightParenthesis = refl
not_closing RightBrace = refl
not_closing identifier_kind = refl
not_closing _ = refl

not_end : (k : TokenKind) → (not (begins_statement k) || not (is_end k)) ≡ true
not_end Semicolon = refl
not_end RightParenthesis = refl
not_end RightBrace = refl
not_end _ = refl

pub open_before : (place : Cursor) → is_next begins_expression place ≡ true → is_next is_closing place ≡ false
open_before place e = next_excluded begins_expression is_closing place not_closing e

expression_is_no_end : (k : TokenKind) → (not (begins_expression k) || not (is_end k)) ≡ true
expression_is_no_end Semicolon = refl
expression_is_no_end RightParenthesis = refl
expression_is_no_end RightBrace = refl
expression_is_no_end _ = refl

pub no_end_before : (place : Cursor) → is_next begins_expression place ≡ true → is_next is_end place ≡ false
no_end_before place e = next_excluded begins_expression is_end place expression_is_no_end e

-- A semicolon before what closes nothing is there.
pub semicolon_there : {from to : Cursor} → semicolon from to → is_next is_closing to ≡ false → TakesSemicolon from to
semicolon_there (inl t) e = t
semicolon_there (inr h) e = let both : true ≡ false = sym h.1 ∙ (ap (is_next is_closing) h.0 ∙ e) in cc

module _ (text : GoText) where
  -- A simple statement begins with an expression, or a name.
  pub simple-begins : (header : Bool) (form : StatementForm) (from to : Cursor) → IsSimpleIn header form → SpellsStatementForm text form from to → is_next begins_expression from ≡ true
  unfolding SpellsStatementForm
  simple-begins header (expression_statement e) from to h s = expression_begins text e from to s
  simple-begins header (send_statement c v) from to h s = expression_begins text c from s.0 s.1
  simple-begins header (increment_statement e) from to h s = expression_begins text e from s.0 s.1
  simple-begins header (decrement_statement e) from to h s = expression_begins text e from s.0 s.1
  simple-begins header (assignment ls rs) from to h s = expressions-begin text ls from s.0 s.1
  simple-begins header (operator_assignment op l r) from to h s = expression_begins text l from s.0 s.1
  simple-begins header (define_statement (n ∷ ns) rs) from to h s = next_gives s.1.1.0.0 begins_expression
  simple-begins header (define_statement [] rs) from to h s = absurd s.1
  simple-begins header _ from to h s = absurd h

  expressions-label : {kind : TokenKind} (es : Expressions) (from between : Cursor) {after : Cursor} → SpellsExpressions text as_expression es from between → TakesToken kind between after → same_kind kind Colon ≡ false → labels from ≡ false
  unfolding SpellsExpressions SpellsMore same_kind
  expressions-label no_expression from between s t e = absurd s
  expressions-label (expression_and x no_expression) from between s t e =
      expression-label text as_expression x from s.0 tt s.1 (ap (stands Colon) s.2 ∙ stands_other t Colon e)
  expressions-label (expression_and x (expression_and y ys)) from between s t e =
      expression-label text as_expression x from s.0 tt s.1 (stands_other s.2.1 Colon refl)

  identifiers-label : {kind : TokenKind} (ns : List Identifier) (from between : Cursor) {after : Cursor} → identifiers text ns from between → TakesToken kind between after → same_kind kind Colon ≡ false → labels from ≡ false
  unfolding same_kind
  identifiers-label [] from between s t e = absurd s
  identifiers-label (n ∷ []) from between s t e = after_name s.1.0.0 (ap (stands Colon) s.2 ∙ stands_other t Colon e)
  identifiers-label (n ∷ (m ∷ ns)) from between s t e = after_name s.1.0.0 (stands_other s.2.1 Colon refl)

  pub simple-label : (header : Bool) (form : StatementForm) (from to : Cursor) → IsSimpleIn header form → SpellsStatementForm text form from to → BeginsNoLabel from to
  unfolding SpellsStatementForm same_kind
  simple-label header (expression_statement e) from to h s = expression-label text as_expression e from to tt s
  simple-label header (send_statement c v) from to h s = λ colon. expression-label text as_expression c from s.0 tt s.1 (stands_other s.2.1 Colon refl)
  simple-label header (increment_statement x) from to h s = λ colon. expression-label text as_expression x from s.0 tt s.1 (stands_other s.2 Colon refl)
  simple-label header (decrement_statement x) from to h s = λ colon. expression-label text as_expression x from s.0 tt s.1 (stands_other s.2 Colon refl)
  simple-label header (assignment ls rs) from to h s = λ colon. expressions-label ls from s.0 s.1 s.2.1 refl
  simple-label header (operator_assignment op l r) from to h s =
      let sign = assigns op s.0 s.2.0 s.2.1 in
      λ colon. expression-label text as_expression l from s.0 tt s.1 (stands_other sign.taken Colon sign.no_colon)
  simple-label header (define_statement ns rs) from to h s = λ colon. identifiers-label ns from s.0 s.1 s.2.1 refl
  simple-label header _ from to h s = absurd h

  -- No statement of a list begins with what ends one.
  pub statement-begins : (s : Statement) (from to : Cursor) → IsKept (form_of s) → SpellsStatement text s from to → is_next is_end from ≡ false
  statement-begins s from to h spelled = next_excluded begins_statement is_end from not_end (statement_begins text s from to h spelled)

  -- A part that may be missing begins nothing that closes before something that does not.
  pub optional-open : (e : OptionalExpression) (from to : Cursor) → SpellsOptional text as_expression e from to → is_next is_closing to ≡ false → is_next is_closing from ≡ false
  unfolding SpellsOptional
  optional-open missing_expression from to s h = ap (is_next is_closing) s ∙ h
  optional-open (present_expression e) from to s h = open_before from (expression_begins text e from to s)
