use Rattle.std.proofs.Common.{refl}
use Rattle.tree.proofs.Views.{expression_form-Name, expression_form-BasicLit, expression_form-FuncLit, expression_form-CompositeLit, expression_form-LiteralValue, expression_form-KeyValue, expression_form-Paren, expression_form-Selector, expression_form-Index, expression_form-Instance, expression_form-Slice, expression_form-TypeAssert, expression_form-Call, expression_form-Star, expression_form-Unary, expression_form-Binary, expression_form-ArrayType, expression_form-EllipsisArrayType, expression_form-SliceType, expression_form-MapType, expression_form-ChanType, expression_form-FuncType, expression_form-StructType, expression_form-InterfaceType, literal_syntax-out}
use Rattle.meaning.specs.TypeParameters.{has_type}
use Rattle.parser_base.proofs.ReadForms.{either_so, either_other}
use Rattle.parser_base.proofs.shapes.+has_type.Goals as goal

pub returns-in-Name : goal.returns-in-Name
unfolding has_type
returns-in-Name t c = rw (c.in-Name.is, expression_form-Name) refl

pub returns-in-BasicLit : goal.returns-in-BasicLit
unfolding has_type
returns-in-BasicLit t c = rw (c.in-BasicLit.is, expression_form-BasicLit) refl

pub returns-in-FuncLit : goal.returns-in-FuncLit
unfolding has_type
returns-in-FuncLit t c = rw (c.in-FuncLit.is, expression_form-FuncLit, literal_syntax-out) refl

pub returns-in-CompositeLit : goal.returns-in-CompositeLit
unfolding has_type
returns-in-CompositeLit t c = rw (c.in-CompositeLit.is, expression_form-CompositeLit) refl

pub returns-in-LiteralValue : goal.returns-in-LiteralValue
unfolding has_type
returns-in-LiteralValue t c = rw (c.in-LiteralValue.is, expression_form-LiteralValue) refl

pub returns-in-KeyValue : goal.returns-in-KeyValue
unfolding has_type
returns-in-KeyValue t c = rw (c.in-KeyValue.is, expression_form-KeyValue) refl

pub returns-in-Selector : goal.returns-in-Selector
unfolding has_type
returns-in-Selector t c = rw (c.in-Selector.is, expression_form-Selector) refl

pub returns-in-Index : goal.returns-in-Index
unfolding has_type
returns-in-Index t c = rw (c.in-Index.is, expression_form-Index) refl

pub returns-in-Instance : goal.returns-in-Instance
unfolding has_type
returns-in-Instance t c = rw (c.in-Instance.is, expression_form-Instance) refl

pub returns-in-Slice : goal.returns-in-Slice
unfolding has_type
returns-in-Slice t c = rw (c.in-Slice.is, expression_form-Slice) refl

pub returns-in-TypeAssert : goal.returns-in-TypeAssert
unfolding has_type
returns-in-TypeAssert t c = rw (c.in-TypeAssert.is, expression_form-TypeAssert) refl

pub returns-in-Call : goal.returns-in-Call
unfolding has_type
returns-in-Call t c = rw (c.in-Call.is, expression_form-Call) refl

pub returns-in-ArrayType : goal.returns-in-ArrayType
unfolding has_type
returns-in-ArrayType t c = rw (c.in-ArrayType.is, expression_form-ArrayType) refl

pub returns-in-EllipsisArrayType : goal.returns-in-EllipsisArrayType
unfolding has_type
returns-in-EllipsisArrayType t c = rw (c.in-EllipsisArrayType.is, expression_form-EllipsisArrayType) refl

pub returns-in-SliceType : goal.returns-in-SliceType
unfolding has_type
returns-in-SliceType t c = rw (c.in-SliceType.is, expression_form-SliceType) refl

pub returns-in-MapType : goal.returns-in-MapType
unfolding has_type
returns-in-MapType t c = rw (c.in-MapType.is, expression_form-MapType) refl

pub returns-in-ChanType : goal.returns-in-ChanType
unfolding has_type
returns-in-ChanType t c = rw (c.in-ChanType.is, expression_form-ChanType) refl

pub returns-in-FuncType : goal.returns-in-FuncType
unfolding has_type
returns-in-FuncType t c = rw (c.in-FuncType.is, expression_form-FuncType) refl

pub returns-in-StructType : goal.returns-in-StructType
unfolding has_type
returns-in-StructType t c = rw (c.in-StructType.is, expression_form-StructType) refl

pub returns-in-InterfaceType : goal.returns-in-InterfaceType
unfolding has_type
returns-in-InterfaceType t c = rw (c.in-InterfaceType.is, expression_form-InterfaceType) refl

pub returns-in-Paren : goal.returns-in-Paren
unfolding has_type
returns-in-Paren t c = rw (c.in-Paren.is, expression_form-Paren, ← c.deref.ensures) c.has_type.ensures

pub returns-in-Star : goal.returns-in-Star
unfolding has_type
returns-in-Star t c = rw (c.in-Star.is, expression_form-Star, ← c.deref-in-Star.ensures) c.has_type-in-Star.ensures

pub returns-in-Unary : goal.returns-in-Unary
unfolding has_type
returns-in-Unary t c = rw (c.in-Unary.is, expression_form-Unary, ← c.deref-in-Unary.ensures) c.has_type-in-Unary.ensures

pub returns-then-has_type : goal.returns-then-has_type
unfolding has_type
returns-then-has_type t c =
    rw (c.in-Binary.is, expression_form-Binary, ← c.deref-in-Binary.ensures)
    (either_so _ _ _ c.has_type-in-Binary.ensures c.if-has_type.true)

pub returns-else-has_type : goal.returns-else-has_type
unfolding has_type
returns-else-has_type t c =
    rw (c.in-Binary.is, expression_form-Binary, ← c.deref-in-Binary.ensures, ← c.deref-else-has_type.ensures)
    (either_other _ _ _ c.has_type-in-Binary.ensures c.if-has_type.false _ c.has_type-else-has_type.ensures)
