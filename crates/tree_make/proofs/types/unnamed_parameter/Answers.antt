use Rattle.tree.proofs.Views.{parameter_and-Unnamed}
use Rattle.tree_make.proofs.types.unnamed_parameter.Goals as goal

pub returns : goal.returns
returns c = λ after. parameter_and-Unnamed c.args.has_ellipsis c.args.kind after
