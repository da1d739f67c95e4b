use Rattle.std.proofs.Common.{refl}
use Rattle.tree.proofs.Views.{expression_form-Call}
use Rattle.tree_make.proofs.expression.call_expression.Goals as goal

pub returns : goal.returns
returns c = rw expression_form-Call refl
