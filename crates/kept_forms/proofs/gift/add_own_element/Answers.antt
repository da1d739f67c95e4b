use Rattle.std.proofs.Common.{[], if◌then◌else◌, map, sym, ap, ◌∙◌}
use Rattle.meaning.specs.Kept.{element, element_gift}
use Rattle.tree.specs.View.{expression_syntax}
use Rattle.kept_forms.specs.FormViews.{type_syntax}
use Rattle.kept_forms.proofs.AddedParts.{ok_same, adds_none_of}
use Rattle.kept_forms.proofs.GiftForms.{own_if}
use Rattle.kept_forms.proofs.gift.add_own_element.Goals as goal

pub returns-then-may_have_fields : goal.returns-then-may_have_fields
returns-then-may_have_fields c =
    let own = map element_gift (element (expression_syntax c.args.value.now)) in
    ok_same c.add_element.result _ _ _ _
    (ap (λ b. if b then own else []) (sym c.if-may_have_fields.true ∙ c.may_have_fields.ensures)
    ∙ sym (own_if (type_syntax c.args.literal) (expression_syntax c.args.value.now)))
    c.add_element.ensures

pub returns : goal.returns
returns c =
    let own = map element_gift (element (expression_syntax c.args.value.now)) in
    adds_none_of _ _
    (ap (λ b. if b then own else []) (sym c.if-may_have_fields.false ∙ c.may_have_fields.ensures)
    ∙ sym (own_if (type_syntax c.args.literal) (expression_syntax c.args.value.now)))
