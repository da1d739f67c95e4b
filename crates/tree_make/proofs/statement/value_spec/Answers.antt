use Rattle.tree.proofs.Views.{spec_and-Value}
use Rattle.tree_make.proofs.statement.value_spec.Goals as goal

pub returns : goal.returns
returns c = λ after. spec_and-Value c.args.names c.args.kind c.args.values c.args.span after
