-- Statements that fall through, and the last ones of clauses.
use Rattle.std.proofs.Common.{◌≡◌, ◌≢◌, ℕ, ◌-◌, zero, suc, true, false, List, [], ◌∷◌, ◌++◌, Some, length, slice_get, refl, sym, ap, ◌∙◌, arith, append_assoc}
use Rattle.std.specs.Prelude.{◌==◌}
use Rattle.std.proofs.lemmas.Bool.{false≢true, eqb-true}
use Rattle.std.proofs.lemmas.Bool.Decides.{Decides-eqb}
use Rattle.std.proofs.lemmas.List.{append-nil}
use Rattle.std.proofs.lemmas.Option.{slice_get_within}
use Rattle.std.specs.declared.alloc.Global.{Global}
use Rattle.std.specs.declared.boxed.Box.{Box}
use Rattle.tree.specs.declared.span.Identifier.{Identifier as KeptIdentifier}
use Rattle.tree.specs.declared.span.Span.{Span}
use Rattle.tree.specs.declared.statement.CaseClause.{CaseClause, out-CaseClause}
use Rattle.tree.specs.declared.statement.Stmt.{Stmt}
use Rattle.tree.specs.declared.statement.StmtKind.{StmtKind, Fallthrough, Labeled, Labeled'}
use Rattle.tree.specs.Syntax.{statement_node, CaseClauses}
use Rattle.tree.specs.View.{statement_form, statement_syntax, statements_syntax, case_clause_and}
use Rattle.tree.proofs.Views.{case_clause_and-out}
use Rattle.meaning.specs.StatementCode.{falls_at, last_falls, clauses_fall}

-- another statement falls nowhere
pub falls_not : (k : StmtKind) (span : Span) → (k ≡ Fallthrough → ⊥)
    → ((n : KeptIdentifier) (s : Box Stmt Global) → k ≡ Labeled n s → ⊥)
    → [] ≡ falls_at (statement_node (statement_form k) span)
unfolding statement_form
falls_not Fallthrough span fallthrough labeled = absurd (fallthrough refl)
falls_not (Labeled' n p s s_span) span fallthrough labeled =
    absurd (labeled n record { ptr = p.ptr; alloc = p.alloc; value = record { kind = s; span = s_span } } refl)
falls_not _ span fallthrough labeled = refl

last_at : (ss : List Stmt) (i : ℕ) (s : Stmt) → suc i ≡ length ss → slice_get ss i ≡ Some s
    → falls_at (statement_syntax s) ≡ last_falls (statements_syntax ss)
last_at [] i s is e = cc
last_at (t ∷ []) zero s is e =
    let same : t ≡ s = cc in
    ap (λ x. falls_at (statement_syntax x)) (sym same)
last_at (t ∷ []) (suc i) s is e = cc
last_at (t ∷ (u ∷ ss)) zero s is e = cc
last_at (t ∷ (u ∷ ss)) (suc i) s is e = last_at (u ∷ ss) i s (omega (arith, is)) e

pub falls_last : (ss : List Stmt) (s : Stmt) → Some s ≡ slice_get ss (length ss - 1)
    → falls_at (statement_syntax s) ≡ last_falls (statements_syntax ss)
falls_last ss s e =
    let within = slice_get_within ss (length ss - 1) s (sym e) in
    last_at ss (length ss - 1) s (omega (arith, within)) (sym e)

pub clauses_more : (c : CaseClause) (cs : CaseClauses)
    → clauses_fall (case_clause_and c cs)
    ≡ last_falls (statements_syntax (out-CaseClause c).statements.items) ++ clauses_fall cs
clauses_more c cs = ap clauses_fall (case_clause_and-out c cs)

pub fall_next : (now next found all rest whole : List ℕ)
    → now ++ all ≡ whole → all ≡ found ++ rest → next ≡ now ++ found → next ++ rest ≡ whole
fall_next now next found all rest whole kept split added =
    ap (λ l. l ++ rest) added ∙ append_assoc now found rest ∙ ap (λ l. now ++ l) (sym split) ∙ kept

pub falls_all : (found all whole : List ℕ) → found ++ all ≡ whole → all ≡ [] → found ≡ whole
falls_all found all whole kept nothing = sym (append-nil found) ∙ ap (λ l. found ++ l) (sym nothing) ∙ kept

-- a list with so many elements

pub none_there : (xs : List ℕ) (len : ℕ) → length xs ≡ len → true ≡ (len == 0) → xs ≡ []
none_there [] len l e = refl
none_there (x ∷ xs) len l e = let z = eqb-true len 0 (sym e) in absurd (omega (arith, z, l))

pub some_there : (xs : List ℕ) (len : ℕ) → length xs ≡ len → false ≡ (len == 0) → xs ≢ []
some_there [] len l e same = false≢true (e ∙ (Decides-eqb len 0).1 (sym l))
some_there (x ∷ xs) len l e same = cc
