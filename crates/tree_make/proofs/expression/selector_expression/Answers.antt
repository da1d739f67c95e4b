use Rattle.std.proofs.Common.{refl}
use Rattle.tree.proofs.Views.{expression_form-Selector}
use Rattle.tree_make.proofs.expression.selector_expression.Goals as goal

pub returns : goal.returns
returns c = rw expression_form-Selector refl
