-- Clauses of switches: which is the default, and whether the switch may be passed.
use Rattle.std.proofs.Common.{◌≡◌, ◌≢◌, ℕ, None, Bool, true, false, true≢false, if◌then◌else◌, List, [], ◌∷◌, length, refl, sym, ap, ◌∙◌}
use Rattle.std.specs.Prelude.{◌==◌}
use Rattle.std.proofs.Math.Dec.{eqb-suc-zero}
use Rattle.tree.specs.declared.expression.Expr.{Expr}
use Rattle.tree.specs.declared.statement.CaseClause.{CaseClause, out-CaseClause}
use Rattle.tree.specs.Syntax.{CaseClauses}
use Rattle.tree.specs.View.{case_clause_and, expressions_syntax, cases_syntax}
use Rattle.tree.proofs.Views.{case_clause_and-out}
use Rattle.meaning.specs.Code.{Code, breaking, skip, leave, then_code, either, repeats}
use Rattle.meaning.specs.StatementCode.{is_default, has_default, or_past, breaks_end, up_to_falls, switch_code}

pub is_default-length : (es : List Expr) → (length es == 0) ≡ is_default (expressions_syntax es)
is_default-length [] = refl
is_default-length (e ∷ es) = eqb-suc-zero (length es)

pub more_clauses : (c : CaseClause) (cs : CaseClauses) (b : Bool)
    → b ≡ is_default (expressions_syntax (out-CaseClause c).expressions.items)
    → has_default (case_clause_and c cs) ≡ (if b then true else has_default cs)
more_clauses c cs b e =
    ap has_default (case_clause_and-out c cs) ∙ ap (λ x. if x then true else has_default cs) (sym e)

module _ {E : Type 0} where
  pub none_passed : (cs : List CaseClause) (code : Code E) → true ≡ (length cs == 0) → skip ≡ or_past (cases_syntax cs) code
  none_passed [] code e = refl
  none_passed (c ∷ cs) code e = absurd (true≢false (e ∙ eqb-suc-zero (length cs)))

  pub may_pass : (cs : List CaseClause) (code : Code E) → false ≡ (length cs == 0) → false ≡ has_default (cases_syntax cs)
      → either code skip ≡ or_past (cases_syntax cs) code
  may_pass [] code e h = absurd (true≢false (sym e))
  may_pass (c ∷ cs) code e h =
      let split = case_clause_and-out c (cases_syntax cs) in
      sym (ap (λ x. or_past x code) split
      ∙ ap (λ b. if b then code else either code skip) (ap has_default (sym split) ∙ sym h))

  -- Switches, by the list of their `fallthrough`s that was found

  pub not_over : (ls : List (List ℕ)) (found falls : List ℕ) (h c : Code E) → found ≡ falls → found ≡ []
      → then_code h (breaks_end ls c) ≡ switch_code ls falls h c
  not_over ls found falls h c same none = ap (λ l. switch_code ls l h c) (sym none ∙ same)

  over : (ls : List (List ℕ)) (falls : List ℕ) (h c : Code E) → falls ≢ []
      → breaks_end ls (repeats (up_to_falls falls (then_code h (then_code c (leave (breaking None))))))
      ≡ switch_code ls falls h c
  over ls [] h c some = absurd (some refl)
  over ls (at ∷ ats) h c some = refl

  pub over_again : (ls : List (List ℕ)) (found falls : List ℕ) (h c : Code E) → found ≡ falls → found ≢ []
      → breaks_end ls (repeats (up_to_falls found (then_code h (then_code c (leave (breaking None))))))
      ≡ switch_code ls falls h c
  over_again ls found falls h c same some = over ls found h c some ∙ ap (λ l. switch_code ls l h c) same
