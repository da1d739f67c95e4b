use Rattle.std.proofs.Common.{refl}
use Rattle.tree.proofs.Views.{expression_form-TypeAssert}
use Rattle.tree_make.proofs.expression.type_assertion.Goals as goal

pub returns : goal.returns
returns c = rw expression_form-TypeAssert refl
