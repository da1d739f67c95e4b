use Rattle.std.proofs.Common.{refl}
use Rattle.tree.proofs.Views.{statement_form-Labeled}
use Rattle.tree_make.proofs.statement.labeled_statement.Goals as goal

pub returns : goal.returns
returns c = rw statement_form-Labeled refl
