use Rattle.tree.proofs.Views.{statement_form-Send, statement_form-Define}
use Rattle.mentions.proofs.Adding.{adds_nothing, adds_same}
use Rattle.mentions.proofs.FieldForms.{clause_other}
use Rattle.mentions.proofs.fields.clause_given.Goals as goal

pub returns-in-Send : goal.returns-in-Send
returns-in-Send c = rw (c.in-Send.is, statement_form-Send, ← c.deref.ensures) c.given_to.ensures

pub returns-in-Define : goal.returns-in-Define
returns-in-Define c = rw (c.in-Define.is, statement_form-Define, ← c.deref-in-Define.ensures.value) c.renewed.ensures

pub returns-in_default : goal.returns-in_default
returns-in_default c =
    adds_same _ _ _ _
    (clause_other c.args.clause _ _ (λ e v is. c.in_default.not-Send _ _ is) (λ ns rs is. c.in_default.not-Define _ _ is))
    (adds_nothing _)
