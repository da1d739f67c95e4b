use Rattle.std.proofs.Common.{refl}
use Rattle.tree.proofs.Views.{expression_form-FuncType}
use Rattle.tree_make.proofs.types.function_type.Goals as goal

pub returns : goal.returns
returns c = rw expression_form-FuncType refl
