use Rattle.std.proofs.Common.{refl}
use Rattle.tree.proofs.Views.{expression_form-FuncLit}
use Rattle.tree_make.proofs.expression.function_literal.Goals as goal

pub returns : goal.returns
returns c = rw expression_form-FuncLit refl
