use Rattle.std.proofs.Common.{ap, ◌∙◌}
use Rattle.tree.specs.View.{expression_syntax}
use Rattle.tree.proofs.Views.{expression_form-Paren, expression_form-Star, expression_form-Unary}
use Rattle.mentions.specs.MarkViews.{addressed_object}
use Rattle.mentions.proofs.FieldForms.{object_other, object_behind}
use Rattle.mentions.proofs.fields.+object_of.Goals as goal

pub returns-in-Paren : goal.returns-in-Paren
returns-in-Paren t c = rw (c.in-Paren.is, expression_form-Paren, ← c.deref.ensures) c.object_of.ensures

pub returns-in-Star : goal.returns-in-Star
returns-in-Star t c = rw (c.in-Star.is, expression_form-Star, ← c.deref-in-Star.ensures) c.object_of-in-Star.ensures

pub returns-in-Unary : goal.returns-in-Unary
returns-in-Unary t c =
    rw (c.in-Unary.is, expression_form-Unary, ← c.deref-in-Unary.ensures)
    (c.addressed_object.ensures
    ∙ (ap (addressed_object c.in-Unary.operator) c.object_of-in-Unary.ensures
    ∙ object_behind c.in-Unary.operator (expression_syntax c.deref-in-Unary.result.now) c.args.expression.now.span))

pub returns-in_default : goal.returns-in_default
returns-in_default t c =
    c.as_bare.ensures ∙ object_other _ _ c.in_default.not-Paren c.in_default.not-Star c.in_default.not-Unary
