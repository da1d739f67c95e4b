use Rattle.std.proofs.Common.{is_none, sym, ap, ◌∙◌}
use Rattle.kept_forms.specs.FormViews.{type_syntax}
use Rattle.kept_forms.proofs.LiteralForms.{may_if_none}
use Rattle.kept_forms.proofs.literal_type.may_have_fields.Goals as goal

pub returns-in-Some : goal.returns-in-Some
returns-in-Some c =
    ap is_none (sym c.in-Some.is) ∙ may_if_none (type_syntax c.args.literal) c.element_type.result c.element_type.ensures

pub returns-in-None : goal.returns-in-None
returns-in-None c =
    ap is_none (sym c.in-None.is) ∙ may_if_none (type_syntax c.args.literal) c.element_type.result c.element_type.ensures
