-- Constants and variables with a type or values.
use Rattle.std.proofs.Common.{◌≡◌, Bool, List, [], ◌∷◌, length, Option, Some, None, refl}
use Rattle.std.specs.Prelude.{◌==◌, not}
use Rattle.std.proofs.Math.Dec.{eqb-suc-zero}
use Rattle.std.specs.declared.alloc.Global.{Global}
use Rattle.std.specs.declared.boxed.Box.{Box}
use Rattle.tree.specs.declared.expression.Expr.{Expr}
use Rattle.tree.specs.declared.operator.DeclKeyword.{DeclKeyword}
use Rattle.tree.specs.declared.operator.DeclKeyword.TheVariants.{Const, Var}
use Rattle.tree.specs.View.{expressions_syntax, optional_expression_syntax}
use Rattle.tree_reader.specs.Reader.{value_fits}

pub typed-constant : (keyword : DeclKeyword) (o : Option (Box Expr Global)) (t : Box Expr Global) (es : List Expr) (none : Bool) → keyword ≡ Const → o ≡ Some t → none ≡ (length es == 0) → not none ≡ value_fits keyword (optional_expression_syntax o) (expressions_syntax es)
typed-constant keyword o t [] none is some same = rw (is, some, same) refl
typed-constant keyword o t (e ∷ es) none is some same = rw (is, some, same, eqb-suc-zero (length es)) refl

pub untyped-variable : (keyword : DeclKeyword) (o : Option (Box Expr Global)) (es : List Expr) (none : Bool) → keyword ≡ Var → o ≡ None → none ≡ (length es == 0) → not none ≡ value_fits keyword (optional_expression_syntax o) (expressions_syntax es)
untyped-variable keyword o [] none is missing same = rw (is, missing, same) refl
untyped-variable keyword o (e ∷ es) none is missing same = rw (is, missing, same, eqb-suc-zero (length es)) refl
