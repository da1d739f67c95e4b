use Rattle.std.proofs.Common.{refl}
use Rattle.tree.proofs.Views.{expression_form-Binary}
use Rattle.tree_make.proofs.expression.binary_expression.Goals as goal

pub returns : goal.returns
returns c = rw expression_form-Binary refl
