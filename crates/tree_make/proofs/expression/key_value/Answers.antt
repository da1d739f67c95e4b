use Rattle.std.proofs.Common.{refl}
use Rattle.tree.proofs.Views.{expression_form-KeyValue}
use Rattle.tree_make.proofs.expression.key_value.Goals as goal

pub returns : goal.returns
returns c = rw expression_form-KeyValue refl
