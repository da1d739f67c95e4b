use Rattle.uses.proofs.HiddenLefts.{pointed_may, bracketed_may, others_may_not}
use Rattle.uses.proofs.losses.may_be_a_local.Goals as goal

pub returns-in-Star : goal.returns-in-Star
returns-in-Star c = pointed_may _ _ _ c.in-Star.is

pub returns-in-Paren : goal.returns-in-Paren
returns-in-Paren c = bracketed_may _ _ _ c.in-Paren.is

pub returns-in_default : goal.returns-in_default
returns-in_default c = others_may_not _ _ c.in_default.not-Star c.in_default.not-Paren
