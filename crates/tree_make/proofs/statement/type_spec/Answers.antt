use Rattle.std.proofs.Common.{refl}
use Rattle.tree.proofs.Views.{spec_and-Type}
use Rattle.tree_make.proofs.statement.type_spec.Goals as goal

pub returns : goal.returns
returns c = λ after. rw spec_and-Type refl
