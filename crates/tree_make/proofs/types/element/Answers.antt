use Rattle.tree.proofs.Views.{field_and-Element}
use Rattle.tree_make.proofs.types.element.Goals as goal

pub returns : goal.returns
returns c = λ after. field_and-Element c.args.has_star c.args.kind c.args.tag c.args.span after
