use Rattle.tree.specs.View.{expression_syntax}
use Rattle.mentions.proofs.Adding.{adds_nothing, adds_same, same_adds}
use Rattle.mentions.proofs.FieldForms.{receiver_alike, receiver_other}
use Rattle.mentions.proofs.fields.receiver_given.Goals as goal

pub returns-in-Deferred : goal.returns-in-Deferred
returns-in-Deferred c =
    rw c.in-Deferred.is
    (same_adds _ _ _ _ _ (receiver_alike c.args.site (expression_syntax c.args.callee.now)) c.method_given.ensures)

pub returns-in_default : goal.returns-in_default
returns-in_default c =
    adds_same _ _ _ _ (receiver_other c.args.site c.args.place _ c.in_default.not-Deferred c.in_default.not-UnderGo)
    (adds_nothing _)
