use Rattle.std.proofs.Common.{◌∙◌}
use Rattle.meaning.specs.Kept.{element_of}
use Rattle.tree.proofs.Views.{expression_form-KeyValue}
use Rattle.kept_forms.proofs.LiteralForms.{element_other}
use Rattle.kept_forms.proofs.element.as_element.Goals as goal

pub returns-in-KeyValue : goal.returns-in-KeyValue
returns-in-KeyValue c =
    rw (c.in-KeyValue.is, expression_form-KeyValue, ← c.deref.ensures, ← c.deref-in-KeyValue.ensures)
    (c.element_of.ensures ∙ λ i. element_of (c.as_bare.ensures i) (c.as_bare-in-KeyValue.ensures i))

pub returns-in_default : goal.returns-in_default
returns-in_default c = element_other _ _ c.in_default.not-KeyValue
