use Rattle.tree.proofs.Views.{parameter_and-NameAlone}
use Rattle.tree_make.proofs.types.name_alone.Goals as goal

pub returns : goal.returns
returns c = λ after. parameter_and-NameAlone c.args.name after
