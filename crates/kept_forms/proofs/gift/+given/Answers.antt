use Rattle.std.proofs.Common.{◌≡◌, [], ◌∷◌, ◌+◌, drop, map, ap, ◌∙◌}
use Rattle.tree.specs.Syntax.{OptionalExpression}
use Rattle.tree.specs.View.{optional_expression_of, expression_syntax, expressions_syntax}
use Rattle.tree.proofs.Depths.{drop_item, drop_past}
use Rattle.tree.proofs.Views.{expression_form-Name, expression_form-Unary, expression_form-CompositeLit, expression_form-LiteralValue, expression_form-KeyValue}
use Rattle.meaning.specs.Mentions.{bare}
use Rattle.meaning.specs.Kept.{element_type, named_gift, gifts, elements_gifts}
use Rattle.kept_forms.specs.FormViews.{gift_view, type_syntax}
use Rattle.kept_forms.proofs.AddedParts.{ok_same, adds_none_of, adds_then, adds_next, adds_all}
use Rattle.kept_forms.proofs.LiteralForms.{held_is}
use Rattle.kept_forms.proofs.GiftForms.{none_given, given_addressed, elements_more, no_elements}
use Rattle.kept_forms.proofs.gift.+given.Goals as goal

pub add_gifts-returns-in-Name : goal.add_gifts-returns-in-Name
unfolding gifts
add_gifts-returns-in-Name t c =
    rw (c.in-Name.is, expression_form-Name)
    (ok_same c.add_name.result _ _ _ _
    (ap (λ text. named_gift (bare text c.args.value.now.span.start) ∷ []) c.as_str.ensures) c.add_name.ensures)

pub add_gifts-returns-in-Unary : goal.add_gifts-returns-in-Unary
add_gifts-returns-in-Unary t c =
    rw (c.in-Unary.is, expression_form-Unary, ← c.deref.ensures)
    (ok_same c.add_addressed.result _ _ _ _ (given_addressed (type_syntax c.args.literal) _ _ _) c.add_addressed.ensures)

pub add_gifts-returns-in-CompositeLit : goal.add_gifts-returns-in-CompositeLit
unfolding gifts
add_gifts-returns-in-CompositeLit t c =
    rw (c.in-CompositeLit.is, expression_form-CompositeLit, ← c.deref-in-CompositeLit.ensures.value, ← c.deref-in-CompositeLit-2.ensures)
    c.add_elements.ensures

pub add_gifts-returns-in-LiteralValue : goal.add_gifts-returns-in-LiteralValue
unfolding gifts
add_gifts-returns-in-LiteralValue t c =
    rw (c.in-LiteralValue.is, expression_form-LiteralValue, ← c.deref-in-LiteralValue.ensures.value)
    c.add_elements-in-LiteralValue.ensures

pub add_gifts-returns-in-KeyValue : goal.add_gifts-returns-in-KeyValue
unfolding gifts
add_gifts-returns-in-KeyValue t c =
    rw (c.in-KeyValue.is, expression_form-KeyValue, ← c.deref-in-KeyValue.ensures) c.add_gifts.ensures

pub add_gifts-returns-in_default : goal.add_gifts-returns-in_default
add_gifts-returns-in_default t c =
    adds_none_of _ _
    (none_given (type_syntax c.args.literal) _ _ c.in_default.not-Name c.in_default.not-Unary
    c.in_default.not-CompositeLit c.in_default.not-LiteralValue c.in_default.not-KeyValue)

pub add_elements-loop-value-preserved : goal.add_elements-loop-value-preserved
add_elements-loop-value-preserved t c =
    let literal : OptionalExpression = type_syntax c.args.literal in
    let items = drop_item c.args.values.now c.loop-value.value-index c.value-item.result c.loop-value-test.true c.value-item.is in
    let inner : type_syntax c.element_type-inner.result ≡ element_type literal =
    ap optional_expression_of c.element_type-inner.ensures ∙ held_is literal in
    adds_next _ _ _ _ _ _ c.loop-value.invariant
    (ap (λ l. elements_gifts literal (expressions_syntax l)) items
    ∙ elements_more literal (type_syntax c.element_type-inner.result) (expression_syntax c.value-item.result)
    (expressions_syntax (drop (c.loop-value.value-index + 1) c.args.values.now)) inner)
    (adds_then _ _ _ _ _ c.in_ok-add_own_element.ensures c.in_ok-add_gifts.ensures)

pub add_elements-returns : goal.add_elements-returns
add_elements-returns t c =
    let literal : OptionalExpression = type_syntax c.args.literal in
    let nothing = drop_past c.args.values.now c.loop-value.value-index c.loop-value-test.false in
    adds_all (map gift_view c.args.found.now.items) (map gift_view c.loop-value.found.items)
    (elements_gifts literal (expressions_syntax (drop c.loop-value.value-index c.args.values.now)))
    (elements_gifts literal (expressions_syntax c.args.values.now)) c.loop-value.invariant
    (ap (λ l. elements_gifts literal (expressions_syntax l)) nothing ∙ no_elements literal)
