use Rattle.std.proofs.Common.{refl}
use Rattle.tree.proofs.Views.{expression_form-SliceType}
use Rattle.tree_make.proofs.types.slice_type.Goals as goal

pub returns : goal.returns
returns c = rw expression_form-SliceType refl
