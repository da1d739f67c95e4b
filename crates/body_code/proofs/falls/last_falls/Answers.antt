use Rattle.std.proofs.Common.{◌∙◌}
use Rattle.body_code.proofs.FallingClauses.{falls_last}
use Rattle.body_code.proofs.falls.last_falls.Goals as goal

pub returns-in-Some : goal.returns-in-Some
returns-in-Some c = c.falls_at.ensures ∙ falls_last c.args.list.now c.in-Some.last.now c.in-Some.ensures.value
