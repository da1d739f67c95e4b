use Rattle.std.proofs.Common.{refl}
use Rattle.tree.proofs.Views.{statement_form-If}
use Rattle.tree_make.proofs.control.if_statement.Goals as goal

pub returns : goal.returns
returns c = rw statement_form-If refl
