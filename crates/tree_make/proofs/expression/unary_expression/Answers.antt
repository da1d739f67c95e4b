use Rattle.std.proofs.Common.{refl}
use Rattle.tree.proofs.Views.{expression_form-Unary}
use Rattle.tree_make.proofs.expression.unary_expression.Goals as goal

pub returns : goal.returns
returns c = rw expression_form-Unary refl
