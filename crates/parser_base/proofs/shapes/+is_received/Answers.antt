use Rattle.std.proofs.Common.{refl}
use Rattle.tree.proofs.Views.{expression_form-ChanType}
use Rattle.meaning.specs.WellFormed.{is_received}
use Rattle.parser_base.proofs.ReadForms.{received_other}
use Rattle.parser_base.proofs.shapes.+is_received.Goals as goal

pub returns-in-Both : goal.returns-in-Both
unfolding is_received
returns-in-Both t c = rw (c.in-ChanType.is, expression_form-ChanType, c.in-Both.is) refl

pub returns-in-Send : goal.returns-in-Send
unfolding is_received
returns-in-Send t c = rw (c.in-ChanType.is, expression_form-ChanType, c.in-Send.is, ← c.deref.ensures) c.is_received.ensures

pub returns-in-Receive : goal.returns-in-Receive
unfolding is_received
returns-in-Receive t c = rw (c.in-ChanType.is, expression_form-ChanType, c.in-Receive.is) refl

pub returns-in_default : goal.returns-in_default
unfolding is_received
returns-in_default t c = received_other _ c.in_default.not-ChanType
