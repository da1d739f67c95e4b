use Rattle.tree.proofs.Views.{expression_form-Star}
use Rattle.mentions.proofs.Naming.{pointer_other}
use Rattle.mentions.proofs.named.as_pointer.Goals as goal

pub returns-in-Star : goal.returns-in-Star
returns-in-Star c = rw (c.in-Star.is, expression_form-Star, ← c.deref.ensures) c.as_named.ensures

pub returns-in_default : goal.returns-in_default
returns-in_default c = pointer_other _ _ c.in_default.not-Star
