-- Lists of one expression.
use Rattle.std.proofs.Common.{◌≡◌, List, [], ◌∷◌, length, nat_eq, suc, refl, ◌∙◌}
use Rattle.std.proofs.Math.Dec.{eqb-suc-zero, eqb-suc-suc}
use Rattle.tree.specs.declared.expression.Expr.{Expr}
use Rattle.tree.specs.View.{expressions_syntax}
use Rattle.meaning.specs.Mentions.{is_one}

pub is_one-length : (es : List Expr) → nat_eq (length es) 1 ≡ is_one (expressions_syntax es)
is_one-length [] = refl
is_one-length (e ∷ []) = refl
is_one-length (e ∷ f ∷ es) = eqb-suc-suc (suc (length es)) 0 ∙ eqb-suc-zero (length es)
