use Rattle.std.proofs.Common.{refl}
use Rattle.tree.proofs.Views.{expression_form-ArrayType}
use Rattle.tree_make.proofs.types.array_type.Goals as goal

pub returns : goal.returns
returns c = rw expression_form-ArrayType refl
