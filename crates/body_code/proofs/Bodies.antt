-- Lists of statements and of clauses against the lists of their codes, and the code of a whole body.
use Rattle.std.proofs.Common.{◌≡◌, ℕ, ◌-◌, Bool, List, [], ◌∷◌, map, Result, refl, sym, ap, ◌∙◌}
use Rattle.tree.specs.declared.span.Span.{Span}
use Rattle.tree.specs.declared.statement.CaseClause.{CaseClause, out-CaseClause}
use Rattle.tree.specs.declared.statement.CommClause.{CommClause, out-CommClause}
use Rattle.tree.specs.declared.statement.Stmt.{Stmt}
use Rattle.tree.specs.Syntax.{Statements, no_case, no_communication}
use Rattle.tree.specs.View.{statement_syntax, statements_syntax, cases_syntax, communications_syntax}
use Rattle.tree.proofs.Views.{case_clause_and-out, communication_clause_and-out}
use Rattle.meaning.specs.Code.{Code, does, then_code, either}
use Rattle.meaning.specs.StatementCode.{Sites, loop, or_case, or_communication, site, statement_code, statements_code, cases_code, communications_code, block_code, body_code}
use Rattle.code.specs.declared.code.Code.{Code as KeptCode}
use Rattle.code.specs.CodeViews.{sequence, choice, block_of, IsCode}
use Rattle.code.proofs.Codes.{same_code}

module _ {E : Type 0} (sites : Sites E) where
  abbrev pub statement_codes : List Stmt → List (Code E)
  statement_codes ss = map (λ s. statement_code sites [] (statement_syntax s)) ss

  pub sequence-statements : (ss : List Stmt) → sequence (statement_codes ss) ≡ statements_code sites (statements_syntax ss)
  unfolding statements_code
  sequence-statements [] = refl
  sequence-statements (s ∷ ss) = ap (then_code (statement_code sites [] (statement_syntax s))) (sequence-statements ss)

  abbrev pub case_code : CaseClause → Code E
  case_code c =
      then_code (site sites (out-CaseClause c).span.start)
      (statements_code sites (statements_syntax (out-CaseClause c).statements.items))

  abbrev pub case_codes : List CaseClause → List (Code E)
  case_codes cs = map case_code cs

  pub choice-cases : (cs : List CaseClause) → choice (case_codes cs) ≡ cases_code sites (cases_syntax cs)
  unfolding cases_code
  choice-cases [] = refl
  choice-cases (c ∷ []) = sym (ap (cases_code sites) (case_clause_and-out c no_case))
  choice-cases (c ∷ d ∷ cs) =
      let rest = cases_syntax (d ∷ cs) in
      ap (either (case_code c)) (choice-cases (d ∷ cs))
      ∙ sym (ap (cases_code sites) (case_clause_and-out c rest)
      ∙ ap (λ x. or_case (case_code c) x (cases_code sites rest)) (case_clause_and-out d (cases_syntax cs)))

  abbrev pub communication_code : CommClause → Code E
  communication_code c =
      then_code (site sites (out-CommClause c).span.start)
      (statements_code sites (statements_syntax (out-CommClause c).statements.items))

  abbrev pub communication_codes : List CommClause → List (Code E)
  communication_codes cs = map communication_code cs

  pub choice-communications : (cs : List CommClause)
      → choice (communication_codes cs) ≡ communications_code sites (communications_syntax cs)
  unfolding communications_code
  choice-communications [] = refl
  choice-communications (c ∷ []) = sym (ap (communications_code sites) (communication_clause_and-out c no_communication))
  choice-communications (c ∷ d ∷ cs) =
      let rest = communications_syntax (d ∷ cs) in
      ap (either (communication_code c)) (choice-communications (d ∷ cs))
      ∙ sym (ap (communications_code sites) (communication_clause_and-out c rest)
      ∙ ap (λ x. or_communication (communication_code c) x (communications_code sites rest))
      (communication_clause_and-out d (communications_syntax cs)))

  pub whole_body : (braces : Span) (last : ℕ) (silent at_end : E) (ss : Statements)
      → last ≡ braces.end - 1 → silent ≡ sites.other → at_end ≡ sites.returns
      → then_code (does record { at = braces.start; order = 0; event = silent })
      (then_code (block_code sites ss) (does record { at = last; order = 0; event = at_end }))
      ≡ body_code sites (block_of ss braces)
  whole_body braces last silent at_end ss is_last is_silent is_at_end =
      ap (λ e. then_code (does record { at = braces.start; order = 0; event = e })
      (then_code (block_code sites ss) (does record { at = last; order = 0; event = at_end }))) is_silent
      ∙ ap (λ n. then_code (does record { at = braces.start; order = 0; event = sites.other })
      (then_code (block_code sites ss) (does record { at = n; order = 0; event = at_end }))) is_last
      ∙ ap (λ e. then_code (does record { at = braces.start; order = 0; event = sites.other })
      (then_code (block_code sites ss) (does record { at = braces.end - 1; order = 0; event = e }))) is_at_end

module _ {E F : Type 0} where
  -- whether the header may end the loop, in other words
  pub may_end_too : (r : Result (KeptCode E) F) (ls : List (List ℕ)) (f h b p : Code E) (x y : Bool) → x ≡ y
      → IsCode r (then_code f (loop ls h x b p)) → IsCode r (then_code f (loop ls h y b p))
  may_end_too r ls f h b p x y e = same_code r _ _ (ap (λ z. then_code f (loop ls h z b p)) e)
