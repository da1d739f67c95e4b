use Rattle.std.proofs.Common.{refl}
use Rattle.tree.proofs.Views.{expression_form-ChanType}
use Rattle.tree_make.proofs.types.channel_type.Goals as goal

pub returns : goal.returns
returns c = rw expression_form-ChanType refl
