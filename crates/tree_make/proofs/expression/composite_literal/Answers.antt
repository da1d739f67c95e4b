use Rattle.std.proofs.Common.{refl}
use Rattle.tree.proofs.Views.{expression_form-CompositeLit}
use Rattle.tree_make.proofs.expression.composite_literal.Goals as goal

pub returns : goal.returns
returns c = rw expression_form-CompositeLit refl
