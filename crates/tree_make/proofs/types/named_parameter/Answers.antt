use Rattle.tree.proofs.Views.{parameter_and-Named}
use Rattle.tree_make.proofs.types.named_parameter.Goals as goal

pub returns : goal.returns
returns c = λ after. parameter_and-Named c.args.name c.args.has_ellipsis c.args.kind after
