use Rattle.std.proofs.Common.{refl}
use Rattle.tree.proofs.Views.{statement_form-RangeDefine}
use Rattle.tree_make.proofs.control.range_definition.Goals as goal

pub returns : goal.returns
returns c = rw statement_form-RangeDefine refl
