use Rattle.std.proofs.Common.{refl}
use Rattle.tree.proofs.Views.{expression_form-Instance}
use Rattle.tree_make.proofs.expression.instance_expression.Goals as goal

pub returns : goal.returns
returns c = rw expression_form-Instance refl
