use Rattle.tree.proofs.Views.{field_and-Embedded}
use Rattle.tree_make.proofs.types.embedded.Goals as goal

pub returns : goal.returns
returns c = λ after. field_and-Embedded c.args.has_star c.args.name c.args.tag c.args.span after
