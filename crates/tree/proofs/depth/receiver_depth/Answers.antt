use Rattle.std.proofs.Common.{ap, ◌∙◌}
use Rattle.tree.proofs.Depths.{at_parameters}
use Rattle.tree.proofs.depth.receiver_depth.Goals as goal

pub returns-in-Some : goal.returns-in-Some
returns-in-Some c = rw c.in-Some.is (c.parameters_depth.ensures ∙ ap at_parameters c.deref.ensures.value)
