use Rattle.tree.proofs.Views.{statement_form-Fallthrough, statement_form-Labeled}
use Rattle.std.proofs.Common.{refl}
use Rattle.body_code.proofs.FallingClauses.{falls_not}
use Rattle.body_code.proofs.falls.+falls_at.Goals as goal

pub returns-in-Fallthrough : goal.returns-in-Fallthrough
returns-in-Fallthrough t c = rw (c.in-Fallthrough.is, statement_form-Fallthrough) refl

pub returns-in-Labeled : goal.returns-in-Labeled
returns-in-Labeled t c = rw (c.in-Labeled.is, statement_form-Labeled, ← c.deref.ensures) c.falls_at.ensures

pub returns-in_default : goal.returns-in_default
returns-in_default t c = falls_not _ _ c.in_default.not-Fallthrough c.in_default.not-Labeled
