use Rattle.std.proofs.Common.{refl}
use Rattle.tree.proofs.Views.{expression_form-MapType}
use Rattle.tree_make.proofs.types.map_type.Goals as goal

pub returns : goal.returns
returns c = rw expression_form-MapType refl
