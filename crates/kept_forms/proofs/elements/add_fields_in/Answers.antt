use Rattle.tree.specs.View.{expression_syntax}
use Rattle.tree.proofs.Views.{expression_form-Unary}
use Rattle.kept_forms.proofs.LiteralForms.{fields_addressed, fields_plain}
use Rattle.kept_forms.proofs.AddedParts.{ok_same}
use Rattle.kept_forms.proofs.elements.add_fields_in.Goals as goal

pub returns-in-Unary : goal.returns-in-Unary
returns-in-Unary c =
    rw (c.in-Unary.is, expression_form-Unary, ← c.deref.ensures)
    (ok_same c.add_addressed_fields.result _ _ _ _
    (fields_addressed c.in-Unary.operator (expression_syntax c.deref.result.now) c.args.value.now.span)
    c.add_addressed_fields.ensures)

pub returns-in_default : goal.returns-in_default
returns-in_default c =
    ok_same c.add_literal_fields.result _ _ _ _ (fields_plain _ _ c.in_default.not-Unary) c.add_literal_fields.ensures
