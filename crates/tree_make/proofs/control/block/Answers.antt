use Rattle.tree.proofs.Views.{block_syntax-roll}
use Rattle.tree_make.proofs.control.block.Goals as goal

pub returns : goal.returns
returns c = block_syntax-roll record { statements = c.args.statements; span = c.args.span }
