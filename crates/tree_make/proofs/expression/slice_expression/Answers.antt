use Rattle.std.proofs.Common.{refl}
use Rattle.tree.proofs.Views.{expression_form-Slice}
use Rattle.tree_make.proofs.expression.slice_expression.Goals as goal

pub returns : goal.returns
returns c = rw expression_form-Slice refl
