use Rattle.std.proofs.Common.{ap, ◌∙◌}
use Rattle.tree.proofs.Views.{block_statements-out}
use Rattle.tree.proofs.Depths.{at_statements}
use Rattle.tree.proofs.depth.body_depth.Goals as goal

pub returns-in-Some : goal.returns-in-Some
returns-in-Some c = rw (c.in-Some.is, block_statements-out) (c.statements_depth.ensures ∙ ap at_statements c.deref.ensures.value)
