use Rattle.std.proofs.Common.{refl}
use Rattle.tree.proofs.Views.{expression_form-Star}
use Rattle.tree_make.proofs.expression.star_expression.Goals as goal

pub returns : goal.returns
returns c = rw expression_form-Star refl
