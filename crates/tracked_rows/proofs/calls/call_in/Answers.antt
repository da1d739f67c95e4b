use Rattle.tree.proofs.Views.{expression_form-Call}
use Rattle.tracked_rows.proofs.ValueForms.{call_other}
use Rattle.tracked_rows.proofs.calls.call_in.Goals as goal

pub returns-in-Call : goal.returns-in-Call
returns-in-Call c =
    rw (c.in-Call.is, expression_form-Call, ← c.deref.ensures, ← c.deref-in-Call.ensures.value) c.call_of.ensures

pub returns-in_default : goal.returns-in_default
returns-in_default c = call_other _ _ _ c.in_default.not-Call
