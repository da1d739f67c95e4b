use Rattle.std.proofs.Common.{refl, sym, ◌∙◌}
use Rattle.tree.proofs.Views.{expression_form-Name, expression_form-BasicLit, expression_form-FuncLit, expression_form-CompositeLit, expression_form-LiteralValue, expression_form-KeyValue, expression_form-Paren, expression_form-Selector, expression_form-Index, expression_form-Instance, expression_form-Slice, expression_form-TypeAssert, expression_form-Call, expression_form-Star, expression_form-Unary, expression_form-Binary, expression_form-ArrayType, expression_form-EllipsisArrayType, expression_form-SliceType, expression_form-MapType, expression_form-ChanType, expression_form-FuncType, expression_form-StructType, expression_form-InterfaceType, literal_syntax-out}
use Rattle.meaning.specs.WellFormed.{is_type}
use Rattle.parser_base.proofs.ReadForms.{type_unary, both_none, both_so, type_passed, type_missed, types_end}
use Rattle.tree.proofs.Depths.{drop_item, drop_past}
use Rattle.parser_base.proofs.shapes.+types.Goals as goal

pub is_type-returns-in-Name : goal.is_type-returns-in-Name
unfolding is_type
is_type-returns-in-Name t c = rw (c.in-Name.is, expression_form-Name) refl

pub is_type-returns-in-BasicLit : goal.is_type-returns-in-BasicLit
unfolding is_type
is_type-returns-in-BasicLit t c = rw (c.in-BasicLit.is, expression_form-BasicLit) refl

pub is_type-returns-in-FuncLit : goal.is_type-returns-in-FuncLit
unfolding is_type
is_type-returns-in-FuncLit t c = rw (c.in-FuncLit.is, expression_form-FuncLit, literal_syntax-out) refl

pub is_type-returns-in-CompositeLit : goal.is_type-returns-in-CompositeLit
unfolding is_type
is_type-returns-in-CompositeLit t c = rw (c.in-CompositeLit.is, expression_form-CompositeLit) refl

pub is_type-returns-in-LiteralValue : goal.is_type-returns-in-LiteralValue
unfolding is_type
is_type-returns-in-LiteralValue t c = rw (c.in-LiteralValue.is, expression_form-LiteralValue) refl

pub is_type-returns-in-KeyValue : goal.is_type-returns-in-KeyValue
unfolding is_type
is_type-returns-in-KeyValue t c = rw (c.in-KeyValue.is, expression_form-KeyValue) refl

pub is_type-returns-in-Slice : goal.is_type-returns-in-Slice
unfolding is_type
is_type-returns-in-Slice t c = rw (c.in-Slice.is, expression_form-Slice) refl

pub is_type-returns-in-TypeAssert : goal.is_type-returns-in-TypeAssert
unfolding is_type
is_type-returns-in-TypeAssert t c = rw (c.in-TypeAssert.is, expression_form-TypeAssert) refl

pub is_type-returns-in-Call : goal.is_type-returns-in-Call
unfolding is_type
is_type-returns-in-Call t c = rw (c.in-Call.is, expression_form-Call) refl

pub is_type-returns-in-Binary : goal.is_type-returns-in-Binary
unfolding is_type
is_type-returns-in-Binary t c = rw (c.in-Binary.is, expression_form-Binary) refl

pub is_type-returns-in-ArrayType : goal.is_type-returns-in-ArrayType
unfolding is_type
is_type-returns-in-ArrayType t c = rw (c.in-ArrayType.is, expression_form-ArrayType) refl

pub is_type-returns-in-EllipsisArrayType : goal.is_type-returns-in-EllipsisArrayType
unfolding is_type
is_type-returns-in-EllipsisArrayType t c = rw (c.in-EllipsisArrayType.is, expression_form-EllipsisArrayType) refl

pub is_type-returns-in-SliceType : goal.is_type-returns-in-SliceType
unfolding is_type
is_type-returns-in-SliceType t c = rw (c.in-SliceType.is, expression_form-SliceType) refl

pub is_type-returns-in-MapType : goal.is_type-returns-in-MapType
unfolding is_type
is_type-returns-in-MapType t c = rw (c.in-MapType.is, expression_form-MapType) refl

pub is_type-returns-in-ChanType : goal.is_type-returns-in-ChanType
unfolding is_type
is_type-returns-in-ChanType t c = rw (c.in-ChanType.is, expression_form-ChanType) refl

pub is_type-returns-in-FuncType : goal.is_type-returns-in-FuncType
unfolding is_type
is_type-returns-in-FuncType t c = rw (c.in-FuncType.is, expression_form-FuncType) refl

pub is_type-returns-in-StructType : goal.is_type-returns-in-StructType
unfolding is_type
is_type-returns-in-StructType t c = rw (c.in-StructType.is, expression_form-StructType) refl

pub is_type-returns-in-InterfaceType : goal.is_type-returns-in-InterfaceType
unfolding is_type
is_type-returns-in-InterfaceType t c = rw (c.in-InterfaceType.is, expression_form-InterfaceType) refl

pub is_type-returns-in-Paren : goal.is_type-returns-in-Paren
unfolding is_type
is_type-returns-in-Paren t c = rw (c.in-Paren.is, expression_form-Paren, ← c.deref.ensures) c.is_type.ensures

pub is_type-returns-in-Selector : goal.is_type-returns-in-Selector
unfolding is_type
is_type-returns-in-Selector t c = rw (c.in-Selector.is, expression_form-Selector, ← c.deref-in-Selector.ensures) c.is_name.ensures

pub is_type-returns-in-Star : goal.is_type-returns-in-Star
unfolding is_type
is_type-returns-in-Star t c = rw (c.in-Star.is, expression_form-Star, ← c.deref-in-Star.ensures) c.is_type-in-Star.ensures

pub are_types-loop-expression-preserved : goal.are_types-loop-expression-preserved
are_types-loop-expression-preserved t c =
    let items = drop_item c.args.expressions.now c.loop-expression.expression-index c.expression-item.result c.loop-expression-test.true c.expression-item.is in
    type_passed _ _ _ items _ c.loop-expression.invariant (sym c.is_type.ensures ∙ c.if-not-is_type.false)

pub are_types-returns-then-not-is_type : goal.are_types-returns-then-not-is_type
are_types-returns-then-not-is_type t c =
    let items = drop_item c.args.expressions.now c.loop-expression.expression-index c.expression-item.result c.loop-expression-test.true c.expression-item.is in
    type_missed _ _ _ items _ c.loop-expression.invariant (sym c.is_type.ensures ∙ c.if-not-is_type.true)

pub are_types-returns : goal.are_types-returns
are_types-returns t c =
    types_end _ _ (drop_past c.args.expressions.now c.loop-expression.expression-index c.loop-expression-test.false) c.loop-expression.invariant

pub is_type-returns-then-names_type : goal.is_type-returns-then-names_type
unfolding is_type
is_type-returns-then-names_type t c =
    rw (c.in-Index.is, expression_form-Index, ← c.deref-in-Index.ensures, ← c.deref-then-names_type.ensures)
    (both_so _ _ _ c.names_type.ensures c.if-names_type.true _ c.is_type-then-names_type.ensures)

pub is_type-returns-else-names_type : goal.is_type-returns-else-names_type
unfolding is_type
is_type-returns-else-names_type t c =
    rw (c.in-Index.is, expression_form-Index, ← c.deref-in-Index.ensures)
    (both_none _ _ _ c.names_type.ensures c.if-names_type.false)

pub is_type-returns-then-names_type-2 : goal.is_type-returns-then-names_type-2
unfolding is_type
is_type-returns-then-names_type-2 t c =
    rw (c.in-Instance.is, expression_form-Instance, ← c.deref-in-Instance.ensures, ← c.deref-then-names_type-2.ensures.value)
    (both_so _ _ _ c.names_type-in-Instance.ensures c.if-names_type-2.true _ c.are_types.ensures)

pub is_type-returns-else-names_type-2 : goal.is_type-returns-else-names_type-2
unfolding is_type
is_type-returns-else-names_type-2 t c =
    rw (c.in-Instance.is, expression_form-Instance, ← c.deref-in-Instance.ensures)
    (both_none _ _ _ c.names_type-in-Instance.ensures c.if-names_type-2.false)

pub is_type-returns-in-Receive : goal.is_type-returns-in-Receive
unfolding is_type
is_type-returns-in-Receive t c =
    rw (c.in-Unary.is, expression_form-Unary, c.in-Receive.is, ← c.deref-in-Receive.ensures) c.is_received.ensures

pub is_type-returns-in_default : goal.is_type-returns-in_default
unfolding is_type
is_type-returns-in_default t c = rw (c.in-Unary.is, expression_form-Unary) (type_unary _ _ c.in_default.not-Receive)
