-- The items of returns, as the program keeps them, and the parts of what they are looked at for.
use Rattle.std.specs.Prelude.{ℕ, Bool, List, is_none, map}
use Rattle.std.specs.List.{list_all}
use Rattle.std.specs.Borrow.{Bor}
use Rattle.tree.specs.declared.expression.Expr.{Expr as KeptExpression}
use Rattle.tree.specs.Syntax.{Expression}
use Rattle.tree.specs.View.{expressions_syntax}
use Rattle.meaning.specs.FunctionFacts.{Item, Unless, listed}

abbrev pub are_unnamed : List Item → Bool
are_unnamed is = list_all (λ i. is_none i.name) is

abbrev pub returned_view : Bor (List KeptExpression) → List Expression
returned_view es = listed (expressions_syntax es.now)

abbrev pub pairs_of : ℕ → List ℕ → List Unless
pairs_of given errors = map (λ j. record { given = given; error = j }) errors
