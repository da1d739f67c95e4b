use Rattle.std.proofs.Common.{ap}
use Rattle.tree.specs.View.{expression_syntax}
use Rattle.tree.proofs.Views.{expression_form-Selector}
use Rattle.meaning.specs.Mentions.{given_to, method}
use Rattle.mentions.proofs.Adding.{adds_nothing, adds_same, same_adds}
use Rattle.mentions.proofs.FieldForms.{method_other}
use Rattle.mentions.proofs.fields.method_given.Goals as goal

pub returns-in-Selector : goal.returns-in-Selector
returns-in-Selector c =
    rw (c.in-Selector.is, expression_form-Selector, ← c.deref.ensures)
    (same_adds _ _ _ _ _
    (ap (λ m. given_to c.args.site (method m) (expression_syntax c.deref.result.now)) c.as_str.ensures)
    c.given_to.ensures)

pub returns-in_default : goal.returns-in_default
returns-in_default c =
    adds_same _ _ _ _ (method_other c.args.site _ _ (λ e n is. c.in_default.not-Selector _ _ is)) (adds_nothing _)
