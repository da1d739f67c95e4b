-- Where the last of a list of types ends.
use Rattle.std.proofs.Common.{◌≡◌, ◌+◌, ◌-◌, ℕ, zero, suc, List, [], ◌∷◌, Some, length, slice_get, sym, ap, arith}
use Rattle.std.proofs.lemmas.Option.{slice_get_within}
use Rattle.tree.specs.declared.expression.Expr.{Expr}
use Rattle.tree.specs.View.{expressions_syntax}
use Rattle.meaning.specs.Scopes.{end_of_last}

last_known : (end : ℕ) (es : List Expr) (i : ℕ) (e : Expr) → i + 1 ≡ length es → slice_get es i ≡ Some e
    → e.span.end ≡ end_of_last end (expressions_syntax es)
last_known end [] i e is at = absurd (omega (arith, is))
last_known end (f ∷ []) zero e is at =
    let same : f ≡ e = cc in
    sym (ap (λ z. z.span.end) same)
last_known end (f ∷ []) (suc i) e is at = absurd (omega (arith, is))
last_known end (f ∷ (h ∷ es)) zero e is at = absurd (omega (arith, is))
last_known end (f ∷ (h ∷ es)) (suc i) e is at = last_known f.span.end (h ∷ es) i e (omega (arith, is)) at

pub last_ends : (end : ℕ) (es : List Expr) (e : Expr) → Some e ≡ slice_get es (length es - 1)
    → e.span.end ≡ end_of_last end (expressions_syntax es)
last_ends end es e at =
    let within = slice_get_within es (length es - 1) e (sym at) in
    last_known end es (length es - 1) e (omega (arith, within)) (sym at)
