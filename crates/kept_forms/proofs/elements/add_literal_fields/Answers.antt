use Rattle.tree.proofs.Views.{expression_form-CompositeLit}
use Rattle.kept_forms.proofs.LiteralForms.{fields_other}
use Rattle.kept_forms.proofs.AddedParts.{adds_none_of}
use Rattle.kept_forms.proofs.elements.add_literal_fields.Goals as goal

pub returns-in-CompositeLit : goal.returns-in-CompositeLit
returns-in-CompositeLit c =
    rw (c.in-CompositeLit.is, expression_form-CompositeLit, ← c.deref.ensures, ← c.deref-in-CompositeLit.ensures.value)
    c.add_fields_of.ensures

pub returns-in_default : goal.returns-in_default
returns-in_default c = adds_none_of _ _ (fields_other _ _ c.in_default.not-CompositeLit)
