use Rattle.std.proofs.Common.{refl}
use Rattle.tree.proofs.Views.{expression_form-Index}
use Rattle.tree_make.proofs.expression.index_expression.Goals as goal

pub returns : goal.returns
returns c = rw expression_form-Index refl
