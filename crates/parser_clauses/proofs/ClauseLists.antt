-- Lists of clauses, of a `switch` and of a `select`, up to a closing brace.
use Rattle.std.proofs.Common.{◌≡◌, ℕ, suc, ◌-◌, ◌+◌, ◌<◌, true, false, if◌then◌else◌, List, [], ◌∷◌, ◌++◌, Option, Some, None, refl, sym, ap, ◌∙◌}
use Rattle.std.specs.Prelude.{option_and_then}
use Rattle.lexer.specs.declared.token.TokenKind.TheVariants.{RightBrace, Colon}
use Rattle.tree.specs.declared.statement.CaseClause.{CaseClause}
use Rattle.tree.specs.declared.statement.CommClause.{CommClause}
use Rattle.tree.specs.Syntax.{CaseClauses, no_case, case_and, CommunicationClauses, no_communication, communication_and}
use Rattle.tree.specs.View.{case_clause_and, cases_syntax, communication_clause_and, communications_syntax}
use Rattle.meaning.specs.Cursor.{Cursor, GoText}
use Rattle.tree_reader.specs.Reader.{Readers, read_statements, read_case_head, read_cases, read_communication_head, read_communications}
use Rattle.tree_reader.specs.Reading.{Read, stands, take, steps, span_between}
use Rattle.parser_base.proofs.Growing.{prepend, prepend-all, after, ends, fails, goes_on}
use Rattle.parser_base.proofs.Faults.{fails_too}
use Rattle.parser_base.specs.declared.fault.Stop.{Stop}
use Rattle.parser_base.specs.Gives.{Stops}
use Rattle.parser_clauses.specs.Clauses.{read_case_clause, read_communication_clause}

-- Three readings, and what is made of them before what follows.
after_third : {C D E : Type 0} (c : Option C) (made : C → D) (next : D → Option E) → option_and_then next (option_and_then (λ z. Some (made z)) c) ≡ option_and_then (λ z. next (made z)) c
after_third None made next = refl
after_third (Some z) made next = refl

after_second : {B C D E : Type 0} (b : Option B) (third : B → Option C) (made : C → D) (next : D → Option E) → option_and_then next (option_and_then (λ y. option_and_then (λ z. Some (made z)) (third y)) b) ≡ option_and_then (λ y. option_and_then (λ z. next (made z)) (third y)) b
after_second None third made next = refl
after_second (Some y) third made next = after_third (third y) made next

after_three : {A B C D E : Type 0} (a : Option A) (second : A → Option B) (third : B → Option C) (made : A → C → D) (next : D → Option E) → option_and_then next (option_and_then (λ x. option_and_then (λ y. option_and_then (λ z. Some (made x z)) (third y)) (second x)) a) ≡ option_and_then (λ x. option_and_then (λ y. option_and_then (λ z. next (made x z)) (third y)) (second x)) a
after_three None second third made next = refl
after_three (Some x) second third made next = after_second (second x) third (made x) next

-- a clause, and those that follow it
abbrev pub clause_then : {Y : Type 0} → (Cursor → Read Y) → (Y → Y) × Cursor → Read Y
clause_then rest first = option_and_then (λ more. Some (first.0 more.0, more.1)) (rest first.1)

module _ (text : GoText) (r : Readers) (below : ℕ) (n : ℕ) (place : Cursor) where
  pub cases-round : read_cases text r below (suc n) place ≡ (if stands RightBrace place then Some (no_case, place) else option_and_then (clause_then (read_cases text r below n)) (read_case_clause text r below place))
  unfolding read_cases
  cases-round =
      ap (λ (o : Read CaseClauses). if stands RightBrace place then Some (no_case, place) else o) (sym (after_three (read_case_head text r below place) (λ es. take Colon es.1) (λ inner. read_statements text r (steps inner) inner) (λ es ss. (case_and es.0 ss.0 (span_between place ss.1), ss.1)) (clause_then (read_cases text r below n))))

  pub communications-round : read_communications text r below (suc n) place ≡ (if stands RightBrace place then Some (no_communication, place) else option_and_then (clause_then (read_communications text r below n)) (read_communication_clause text r below place))
  unfolding read_communications
  communications-round =
      ap (λ (o : Read CommunicationClauses). if stands RightBrace place then Some (no_communication, place) else o) (sym (after_three (read_communication_head text r below place) (λ c. take Colon c.1) (λ inner. read_statements text r (steps inner) inner) (λ c ss. (communication_and c.0 ss.0 (span_between place ss.1), ss.1)) (clause_then (read_communications text r below n))))

module _ (text : GoText) (r : Readers) (below : ℕ) (place : Cursor) where
  pub no-cases : read_cases text r below 0 place ≡ None
  unfolding read_cases
  no-cases = refl

  pub no-communications : read_communications text r below 0 place ≡ None
  unfolding read_communications
  no-communications = refl

pub all_cases : (cs : List CaseClause) → prepend case_clause_and cs no_case ≡ cases_syntax cs
all_cases cs = prepend-all case_clause_and no_case cases_syntax refl (λ x xs. refl) cs

pub all_communications : (cs : List CommClause) → prepend communication_clause_and cs no_communication ≡ communications_syntax cs
all_communications cs = prepend-all communication_clause_and no_communication communications_syntax refl (λ x xs. refl) cs

-- In a round, after those clauses, of so many rounds.
module _ {X Y : Type 0} (cons : X → Y → Y) (nil : Y) (view : List X → Y) (all : (xs : List X) → prepend cons xs nil ≡ view xs) (one : Cursor → Read (Y → Y)) (reads : ℕ → Cursor → Read Y) (round : (n : ℕ) (place : Cursor) → reads (suc n) place ≡ (if stands RightBrace place then Some (nil, place) else option_and_then (clause_then (reads n)) (one place))) (items : List X) (count i : ℕ) (rest : Cursor) (total : Read Y) (so_far : after cons items (reads (count - i) rest) ≡ total) (lt : i < count) where
  pub clauses-end : stands RightBrace rest ≡ true → total ≡ Some (view items, rest)
  clauses-end e =
      ends cons reads items count i rest total so_far lt nil rest (λ n. round n rest ∙ rw e refl) ∙ ap (λ (y : Y). Some (y, rest)) (all items)

  pub clauses-fail : (e : Stop) → stands RightBrace rest ≡ false → Stops e (one rest) → Stops e total
  clauses-fail e other h =
      fails_too e (one rest) total h (λ none. fails cons reads items count i rest total so_far lt (λ n. round n rest ∙ rw (other, none) refl))

  pub clauses-more : stands RightBrace rest ≡ false → (x : X) (next : Cursor) → one rest ≡ Some (cons x, next) → after cons (items ++ x ∷ []) (reads (count - (i + 1)) next) ≡ total
  clauses-more other x next read =
      goes_on cons reads items count i rest total so_far lt x next (λ n. round n rest ∙ rw (other, read) refl)
