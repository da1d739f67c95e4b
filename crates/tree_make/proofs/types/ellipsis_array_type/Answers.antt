use Rattle.std.proofs.Common.{refl}
use Rattle.tree.proofs.Views.{expression_form-EllipsisArrayType}
use Rattle.tree_make.proofs.types.ellipsis_array_type.Goals as goal

pub returns : goal.returns
returns c = rw expression_form-EllipsisArrayType refl
