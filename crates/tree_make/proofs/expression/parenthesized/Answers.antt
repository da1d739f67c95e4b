use Rattle.std.proofs.Common.{refl}
use Rattle.tree.proofs.Views.{expression_form-Paren}
use Rattle.tree_make.proofs.expression.parenthesized.Goals as goal

pub returns : goal.returns
returns c = rw expression_form-Paren refl
