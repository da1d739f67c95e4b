use Rattle.tree.proofs.Views.{literal_syntax-roll}
use Rattle.tree_make.proofs.expression.literal.Goals as goal

pub returns : goal.returns
returns c = literal_syntax-roll record { signature = c.args.signature; body = c.args.body }
