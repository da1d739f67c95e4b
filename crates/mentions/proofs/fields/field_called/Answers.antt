use Rattle.std.proofs.Common.{[], ◌∷◌, ap}
use Rattle.tree.proofs.Views.{expression_form-Selector}
use Rattle.meaning.specs.Mentions.{of_fields, calls_field}
use Rattle.mentions.proofs.Adding.{adds_nothing, adds_same, same_adds}
use Rattle.mentions.proofs.FieldForms.{called_other}
use Rattle.mentions.proofs.fields.field_called.Goals as goal

pub returns-in-Selector : goal.returns-in-Selector
returns-in-Selector c =
    rw (c.in-Selector.is, expression_form-Selector)
    (same_adds _ _ _ _ _ (ap (λ f. of_fields c.args.site (calls_field f) ∷ []) c.as_str.ensures) c.add.ensures)

pub returns-in_default : goal.returns-in_default
returns-in_default c =
    adds_same _ _ _ _ (called_other c.args.site _ _ (λ e n is. c.in_default.not-Selector _ _ is)) (adds_nothing _)
