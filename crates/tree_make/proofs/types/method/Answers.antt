use Rattle.tree.proofs.Views.{field_and-Method}
use Rattle.tree_make.proofs.types.method.Goals as goal

pub returns : goal.returns
returns c = λ after. field_and-Method c.args.name c.args.signature c.args.span after
