use Rattle.std.proofs.Common.{ap}
use Rattle.tree.specs.View.{expressions_syntax}
use Rattle.tree.proofs.Views.{expression_form-Call}
use Rattle.meaning.specs.Mentions.{appended}
use Rattle.mentions.proofs.Adding.{adds_nothing, same_adds}
use Rattle.mentions.proofs.FieldForms.{right_other}
use Rattle.mentions.proofs.fields.right_given.Goals as goal

pub returns-then-is_only : goal.returns-then-is_only
returns-then-is_only c = rw (c.in-Call.is, expression_form-Call, c.if-is_only.true) (adds_nothing _)

pub returns-else-is_only : goal.returns-else-is_only
returns-else-is_only c =
    rw (c.in-Call.is, expression_form-Call, c.if-is_only.false, ← c.deref.ensures, ← c.deref-else-is_only.ensures.value)
    (same_adds _ _ _ _ _
    (ap (λ n. appended c.args.site n (expressions_syntax c.deref-else-is_only.result.now)) c.as_bare.ensures)
    c.appended.ensures)

pub returns-in_default : goal.returns-in_default
returns-in_default c =
    same_adds _ _ _ _ _ (right_other c.args.site c.args.is_only _ _ (λ e es ellipsis is. c.in_default.not-Call _ _ _ is))
    c.given_to.ensures
