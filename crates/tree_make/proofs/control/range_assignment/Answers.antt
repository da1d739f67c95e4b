use Rattle.std.proofs.Common.{refl}
use Rattle.tree.proofs.Views.{statement_form-RangeAssign}
use Rattle.tree_make.proofs.control.range_assignment.Goals as goal

pub returns : goal.returns
returns c = rw statement_form-RangeAssign refl
