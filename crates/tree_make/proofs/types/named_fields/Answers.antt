use Rattle.tree.proofs.Views.{field_and-Named}
use Rattle.tree_make.proofs.types.named_fields.Goals as goal

pub returns : goal.returns
returns c = λ after. field_and-Named c.args.names c.args.kind c.args.tag c.args.span after
