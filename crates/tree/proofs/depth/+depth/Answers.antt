use Rattle.std.proofs.Common.{refl, sym, ap, ◌∙◌}
use Rattle.tree.specs.declared.expression.Literal.{Literal, out-Literal}
use Rattle.tree.specs.declared.statement.Block.{out-Block}
use Rattle.tree.specs.Depth.{expression_depth, below_expression, expressions_depth, optional_depth, signature_depth, parameters_depth, fields_depth, statement_depth, below_statement, statements_depth, optional_statement_depth, else_depth, cases_depth, communications_depth, specs_depth}
use Rattle.tree.specs.View.{expressions_syntax, statements_syntax, parameters_syntax, fields_syntax, specs_syntax, cases_syntax, communications_syntax}
use Rattle.tree.proofs.Views.{expression_form-ArrayType, expression_form-BasicLit, expression_form-Binary, expression_form-Call, expression_form-ChanType, expression_form-CompositeLit, expression_form-EllipsisArrayType, expression_form-FuncLit, expression_form-FuncType, expression_form-Index, expression_form-Instance, expression_form-InterfaceType, expression_form-KeyValue, expression_form-LiteralValue, expression_form-MapType, expression_form-Name, expression_form-Paren, expression_form-Selector, expression_form-Slice, low_bound_of, high_bound_of, most_bound_of, expression_form-SliceType, expression_form-Star, expression_form-StructType, expression_form-TypeAssert, expression_form-Unary, statement_form-Assign, statement_form-AssignOp, statement_form-Block, statement_form-Break, statement_form-Continue, statement_form-Decl, statement_form-Decrement, statement_form-Defer, statement_form-Define, statement_form-Empty, statement_form-Expr, statement_form-Fallthrough, statement_form-For, statement_form-Go, statement_form-Goto, statement_form-If, statement_form-Increment, statement_form-Labeled, statement_form-RangeAssign, statement_form-RangeDefine, statement_form-Return, statement_form-Select, statement_form-Send, statement_form-Switch, statement_form-TypeSwitch, block_statements-out, parameter_and-Named, parameter_and-Unnamed, parameter_and-NameAlone, field_and-Named, field_and-Embedded, field_and-Element, field_and-Method, spec_and-Value, spec_and-Type}
use Rattle.tree.proofs.Depths.{capped, drop_item, drop_past, at_end, deeper_of, one_more, and_next, at_expression, at_expressions, at_bound, at_signature, at_parameters, at_fields, at_statement, at_statements, at_cases, at_communications, at_specs, literal_below, max-zero, parameters_more, fields_more, specs_more, cases_more, communications_more, pair_counts_nothing, other_counts_one, else_of_block, else_of_if}
use Rattle.tree.proofs.depth.+depth.Goals as goal

pub below_expression-returns-in-Name : goal.below_expression-returns-in-Name
unfolding below_expression
below_expression-returns-in-Name t c =
    rw (c.in-Name.is, expression_form-Name) refl

pub below_expression-returns-in-BasicLit : goal.below_expression-returns-in-BasicLit
unfolding below_expression
below_expression-returns-in-BasicLit t c =
    rw (c.in-BasicLit.is, expression_form-BasicLit) refl

pub below_expression-returns-in-FuncLit : goal.below_expression-returns-in-FuncLit
unfolding below_expression
below_expression-returns-in-FuncLit t c =
    rw (c.in-FuncLit.is, expression_form-FuncLit, literal_below) (deeper_of _ _ _ _ _ c.max.ensures
    (c.signature_depth.ensures ∙ ap (λ (l : Literal). at_signature (out-Literal l).signature) c.deref.ensures)
    (c.statements_depth.ensures ∙ ap at_statements c.deref-in-FuncLit-2.ensures.value ∙ ap (λ (l : Literal). at_statements (out-Block (out-Literal l).body).statements.items) c.deref-in-FuncLit.ensures))

pub below_expression-returns-in-CompositeLit : goal.below_expression-returns-in-CompositeLit
unfolding below_expression
below_expression-returns-in-CompositeLit t c =
    rw (c.in-CompositeLit.is, expression_form-CompositeLit) (deeper_of _ _ _ _ _ c.max-in-CompositeLit.ensures (c.expression_depth.ensures ∙ ap at_expression c.deref-in-CompositeLit.ensures) (c.expressions_depth.ensures ∙ ap at_expressions c.deref-in-CompositeLit-2.ensures.value))

pub below_expression-returns-in-LiteralValue : goal.below_expression-returns-in-LiteralValue
unfolding below_expression
below_expression-returns-in-LiteralValue t c =
    rw (c.in-LiteralValue.is, expression_form-LiteralValue) (c.expressions_depth-in-LiteralValue.ensures ∙ ap at_expressions c.deref-in-LiteralValue.ensures.value)

pub below_expression-returns-in-KeyValue : goal.below_expression-returns-in-KeyValue
unfolding below_expression
below_expression-returns-in-KeyValue t c =
    rw (c.in-KeyValue.is, expression_form-KeyValue) (deeper_of _ _ _ _ _ c.max-in-KeyValue.ensures (c.expression_depth-in-KeyValue.ensures ∙ ap at_expression c.deref-in-KeyValue.ensures) (c.expression_depth-in-KeyValue-2.ensures ∙ ap at_expression c.deref-in-KeyValue-2.ensures))

pub below_expression-returns-in-Paren : goal.below_expression-returns-in-Paren
unfolding below_expression
below_expression-returns-in-Paren t c =
    rw (c.in-Paren.is, expression_form-Paren) (c.expression_depth-in-Paren.ensures ∙ ap at_expression c.deref-in-Paren.ensures)

pub below_expression-returns-in-Selector : goal.below_expression-returns-in-Selector
unfolding below_expression
below_expression-returns-in-Selector t c =
    rw (c.in-Selector.is, expression_form-Selector) (c.expression_depth-in-Selector.ensures ∙ ap at_expression c.deref-in-Selector.ensures)

pub below_expression-returns-in-Index : goal.below_expression-returns-in-Index
unfolding below_expression
below_expression-returns-in-Index t c =
    rw (c.in-Index.is, expression_form-Index) (deeper_of _ _ _ _ _ c.max-in-Index.ensures (c.expression_depth-in-Index.ensures ∙ ap at_expression c.deref-in-Index.ensures) (c.expression_depth-in-Index-2.ensures ∙ ap at_expression c.deref-in-Index-2.ensures))

pub below_expression-returns-in-Instance : goal.below_expression-returns-in-Instance
unfolding below_expression
below_expression-returns-in-Instance t c =
    rw (c.in-Instance.is, expression_form-Instance) (deeper_of _ _ _ _ _ c.max-in-Instance.ensures (c.expression_depth-in-Instance.ensures ∙ ap at_expression c.deref-in-Instance.ensures) (c.expressions_depth-in-Instance.ensures ∙ ap at_expressions c.deref-in-Instance-2.ensures.value))

pub below_expression-returns-in-Slice : goal.below_expression-returns-in-Slice
unfolding below_expression
below_expression-returns-in-Slice t c =
    rw (c.in-Slice.is, expression_form-Slice) (deeper_of _ _ _ _ _ c.max-in-Slice-2.ensures (c.expression_depth-in-Slice.ensures ∙ ap at_expression c.deref-in-Slice-3.ensures) (deeper_of _ _ _ _ _ c.max-in-Slice.ensures
    (c.optional_depth-in-Slice-2.ensures ∙ ap at_bound (low_bound_of c.deref-in-Slice-4.ensures)) (deeper_of _ _ _ _ _ c.max-last.ensures
    (c.optional_depth.ensures ∙ ap at_bound (high_bound_of c.deref-in-Slice.ensures)) (c.optional_depth-in-Slice.ensures ∙ ap at_bound (most_bound_of c.deref-in-Slice-2.ensures)))))

pub below_expression-returns-in-TypeAssert : goal.below_expression-returns-in-TypeAssert
unfolding below_expression
below_expression-returns-in-TypeAssert t c =
    rw (c.in-TypeAssert.is, expression_form-TypeAssert) (deeper_of _ _ _ _ _ c.max-in-TypeAssert.ensures (c.expression_depth-in-TypeAssert.ensures ∙ ap at_expression c.deref-in-TypeAssert.ensures) (c.expression_depth-in-TypeAssert-2.ensures ∙ ap at_expression c.deref-in-TypeAssert-2.ensures))

pub below_expression-returns-in-Call : goal.below_expression-returns-in-Call
unfolding below_expression
below_expression-returns-in-Call t c =
    rw (c.in-Call.is, expression_form-Call) (deeper_of _ _ _ _ _ c.max-in-Call.ensures (c.expression_depth-in-Call.ensures ∙ ap at_expression c.deref-in-Call.ensures) (c.expressions_depth-in-Call.ensures ∙ ap at_expressions c.deref-in-Call-2.ensures.value))

pub below_expression-returns-in-Star : goal.below_expression-returns-in-Star
unfolding below_expression
below_expression-returns-in-Star t c =
    rw (c.in-Star.is, expression_form-Star) (c.expression_depth-in-Star.ensures ∙ ap at_expression c.deref-in-Star.ensures)

pub below_expression-returns-in-Unary : goal.below_expression-returns-in-Unary
unfolding below_expression
below_expression-returns-in-Unary t c =
    rw (c.in-Unary.is, expression_form-Unary) (c.expression_depth-in-Unary.ensures ∙ ap at_expression c.deref-in-Unary.ensures)

pub below_expression-returns-in-Binary : goal.below_expression-returns-in-Binary
unfolding below_expression
below_expression-returns-in-Binary t c =
    rw (c.in-Binary.is, expression_form-Binary) (deeper_of _ _ _ _ _ c.max-in-Binary.ensures (c.expression_depth-in-Binary.ensures ∙ ap at_expression c.deref-in-Binary.ensures) (c.expression_depth-in-Binary-2.ensures ∙ ap at_expression c.deref-in-Binary-2.ensures))

pub below_expression-returns-in-ArrayType : goal.below_expression-returns-in-ArrayType
unfolding below_expression
below_expression-returns-in-ArrayType t c =
    rw (c.in-ArrayType.is, expression_form-ArrayType) (deeper_of _ _ _ _ _ c.max-in-ArrayType.ensures (c.expression_depth-in-ArrayType.ensures ∙ ap at_expression c.deref-in-ArrayType.ensures) (c.expression_depth-in-ArrayType-2.ensures ∙ ap at_expression c.deref-in-ArrayType-2.ensures))

pub below_expression-returns-in-EllipsisArrayType : goal.below_expression-returns-in-EllipsisArrayType
unfolding below_expression
below_expression-returns-in-EllipsisArrayType t c =
    rw (c.in-EllipsisArrayType.is, expression_form-EllipsisArrayType) (c.expression_depth-in-EllipsisArrayType.ensures ∙ ap at_expression c.deref-in-EllipsisArrayType.ensures)

pub below_expression-returns-in-SliceType : goal.below_expression-returns-in-SliceType
unfolding below_expression
below_expression-returns-in-SliceType t c =
    rw (c.in-SliceType.is, expression_form-SliceType) (c.expression_depth-in-SliceType.ensures ∙ ap at_expression c.deref-in-SliceType.ensures)

pub below_expression-returns-in-MapType : goal.below_expression-returns-in-MapType
unfolding below_expression
below_expression-returns-in-MapType t c =
    rw (c.in-MapType.is, expression_form-MapType) (deeper_of _ _ _ _ _ c.max-in-MapType.ensures (c.expression_depth-in-MapType.ensures ∙ ap at_expression c.deref-in-MapType.ensures) (c.expression_depth-in-MapType-2.ensures ∙ ap at_expression c.deref-in-MapType-2.ensures))

pub below_expression-returns-in-ChanType : goal.below_expression-returns-in-ChanType
unfolding below_expression
below_expression-returns-in-ChanType t c =
    rw (c.in-ChanType.is, expression_form-ChanType) (c.expression_depth-in-ChanType.ensures ∙ ap at_expression c.deref-in-ChanType.ensures)

pub below_expression-returns-in-FuncType : goal.below_expression-returns-in-FuncType
unfolding below_expression
below_expression-returns-in-FuncType t c =
    rw (c.in-FuncType.is, expression_form-FuncType) (c.signature_depth-in-FuncType.ensures ∙ ap at_signature c.deref-in-FuncType.ensures)

pub below_expression-returns-in-StructType : goal.below_expression-returns-in-StructType
unfolding below_expression
below_expression-returns-in-StructType t c =
    rw (c.in-StructType.is, expression_form-StructType) (c.fields_depth.ensures ∙ ap at_fields c.deref-in-StructType.ensures.value)

pub below_expression-returns-in-InterfaceType : goal.below_expression-returns-in-InterfaceType
unfolding below_expression
below_expression-returns-in-InterfaceType t c =
    rw (c.in-InterfaceType.is, expression_form-InterfaceType) (c.fields_depth-in-InterfaceType.ensures ∙ ap at_fields c.deref-in-InterfaceType.ensures.value)

pub below_statement-returns-in-Empty : goal.below_statement-returns-in-Empty
unfolding below_statement
below_statement-returns-in-Empty t c =
    rw (c.in-Empty.is, statement_form-Empty) refl

pub below_statement-returns-in-Decl : goal.below_statement-returns-in-Decl
unfolding below_statement
below_statement-returns-in-Decl t c =
    rw (c.in-Decl.is, statement_form-Decl) (c.specs_depth.ensures ∙ ap at_specs c.deref.ensures.value)

pub below_statement-returns-in-Labeled : goal.below_statement-returns-in-Labeled
unfolding below_statement
below_statement-returns-in-Labeled t c =
    rw (c.in-Labeled.is, statement_form-Labeled) (c.statement_depth.ensures ∙ ap at_statement c.deref-in-Labeled.ensures)

pub below_statement-returns-in-Expr : goal.below_statement-returns-in-Expr
unfolding below_statement
below_statement-returns-in-Expr t c =
    rw (c.in-Expr.is, statement_form-Expr) c.expression_depth.ensures

pub below_statement-returns-in-Send : goal.below_statement-returns-in-Send
unfolding below_statement
below_statement-returns-in-Send t c =
    rw (c.in-Send.is, statement_form-Send) (deeper_of _ _ _ _ _ c.max.ensures (c.expression_depth-in-Send.ensures ∙ ap at_expression c.deref-in-Send.ensures) (c.expression_depth-in-Send-2.ensures ∙ ap at_expression c.deref-in-Send-2.ensures))

pub below_statement-returns-in-Increment : goal.below_statement-returns-in-Increment
unfolding below_statement
below_statement-returns-in-Increment t c =
    rw (c.in-Increment.is, statement_form-Increment) c.expression_depth-in-Increment.ensures

pub below_statement-returns-in-Decrement : goal.below_statement-returns-in-Decrement
unfolding below_statement
below_statement-returns-in-Decrement t c =
    rw (c.in-Decrement.is, statement_form-Decrement) c.expression_depth-in-Decrement.ensures

pub below_statement-returns-in-Assign : goal.below_statement-returns-in-Assign
unfolding below_statement
below_statement-returns-in-Assign t c =
    rw (c.in-Assign.is, statement_form-Assign) (deeper_of _ _ _ _ _ c.max-in-Assign.ensures (c.expressions_depth.ensures ∙ ap at_expressions c.deref-in-Assign.ensures.value) (c.expressions_depth-in-Assign.ensures ∙ ap at_expressions c.deref-in-Assign-2.ensures.value))

pub below_statement-returns-in-AssignOp : goal.below_statement-returns-in-AssignOp
unfolding below_statement
below_statement-returns-in-AssignOp t c =
    rw (c.in-AssignOp.is, statement_form-AssignOp) (deeper_of _ _ _ _ _ c.max-in-AssignOp.ensures (c.expression_depth-in-AssignOp.ensures ∙ ap at_expression c.deref-in-AssignOp.ensures) (c.expression_depth-in-AssignOp-2.ensures ∙ ap at_expression c.deref-in-AssignOp-2.ensures))

pub below_statement-returns-in-Define : goal.below_statement-returns-in-Define
unfolding below_statement
below_statement-returns-in-Define t c =
    rw (c.in-Define.is, statement_form-Define) (c.expressions_depth-in-Define.ensures ∙ ap at_expressions c.deref-in-Define.ensures.value)

pub below_statement-returns-in-Go : goal.below_statement-returns-in-Go
unfolding below_statement
below_statement-returns-in-Go t c =
    rw (c.in-Go.is, statement_form-Go) c.expression_depth-in-Go.ensures

pub below_statement-returns-in-Defer : goal.below_statement-returns-in-Defer
unfolding below_statement
below_statement-returns-in-Defer t c =
    rw (c.in-Defer.is, statement_form-Defer) c.expression_depth-in-Defer.ensures

pub below_statement-returns-in-Return : goal.below_statement-returns-in-Return
unfolding below_statement
below_statement-returns-in-Return t c =
    rw (c.in-Return.is, statement_form-Return) (c.expressions_depth-in-Return.ensures ∙ ap at_expressions c.deref-in-Return.ensures.value)

pub below_statement-returns-in-Break : goal.below_statement-returns-in-Break
unfolding below_statement
below_statement-returns-in-Break t c =
    rw (c.in-Break.is, statement_form-Break) refl

pub below_statement-returns-in-Continue : goal.below_statement-returns-in-Continue
unfolding below_statement
below_statement-returns-in-Continue t c =
    rw (c.in-Continue.is, statement_form-Continue) refl

pub below_statement-returns-in-Goto : goal.below_statement-returns-in-Goto
unfolding below_statement
below_statement-returns-in-Goto t c =
    rw (c.in-Goto.is, statement_form-Goto) refl

pub below_statement-returns-in-Fallthrough : goal.below_statement-returns-in-Fallthrough
unfolding below_statement
below_statement-returns-in-Fallthrough t c =
    rw (c.in-Fallthrough.is, statement_form-Fallthrough) refl

pub below_statement-returns-in-Block : goal.below_statement-returns-in-Block
unfolding below_statement
below_statement-returns-in-Block t c =
    rw (c.in-Block.is, statement_form-Block, block_statements-out) (c.statements_depth.ensures ∙ ap at_statements c.deref-in-Block.ensures.value)

pub below_statement-returns-in-If : goal.below_statement-returns-in-If
unfolding below_statement
below_statement-returns-in-If t c =
    rw (c.in-If.is, statement_form-If, block_statements-out) (deeper_of _ _ _ _ _ c.max-in-If-2.ensures c.optional_statement_depth.ensures (deeper_of _ _ _ _ _ c.max-in-If.ensures (c.expression_depth-in-If.ensures ∙ ap at_expression c.deref-in-If-2.ensures) (deeper_of _ _ _ _ _ c.max-branches.ensures (c.statements_depth-in-If.ensures ∙ ap at_statements c.deref-in-If.ensures.value) c.else_depth.ensures)))

pub below_statement-returns-in-For : goal.below_statement-returns-in-For
unfolding below_statement
below_statement-returns-in-For t c =
    rw (c.in-For.is, statement_form-For, block_statements-out) (deeper_of _ _ _ _ _ c.max-in-For-2.ensures c.optional_statement_depth-in-For-2.ensures (deeper_of _ _ _ _ _ c.max-in-For.ensures c.optional_depth.ensures (deeper_of _ _ _ _ _ c.max-after.ensures c.optional_statement_depth-in-For.ensures (c.statements_depth-in-For.ensures ∙ ap at_statements c.deref-in-For.ensures.value))))

pub below_statement-returns-in-RangeAssign : goal.below_statement-returns-in-RangeAssign
unfolding below_statement
below_statement-returns-in-RangeAssign t c =
    rw (c.in-RangeAssign.is, statement_form-RangeAssign, block_statements-out) (deeper_of _ _ _ _ _ c.max-in-RangeAssign.ensures (c.expressions_depth-in-RangeAssign.ensures ∙ ap at_expressions c.deref-in-RangeAssign-3.ensures.value) (deeper_of _ _ _ _ _ c.max-after-in-RangeAssign.ensures (c.expression_depth-in-RangeAssign.ensures ∙ ap at_expression c.deref-in-RangeAssign.ensures) (c.statements_depth-in-RangeAssign.ensures ∙ ap at_statements c.deref-in-RangeAssign-2.ensures.value)))

pub below_statement-returns-in-RangeDefine : goal.below_statement-returns-in-RangeDefine
unfolding below_statement
below_statement-returns-in-RangeDefine t c =
    rw (c.in-RangeDefine.is, statement_form-RangeDefine, block_statements-out) (deeper_of _ _ _ _ _ c.max-in-RangeDefine.ensures (c.expression_depth-in-RangeDefine.ensures ∙ ap at_expression c.deref-in-RangeDefine.ensures) (c.statements_depth-in-RangeDefine.ensures ∙ ap at_statements c.deref-in-RangeDefine-2.ensures.value))

pub below_statement-returns-in-Switch : goal.below_statement-returns-in-Switch
unfolding below_statement
below_statement-returns-in-Switch t c =
    rw (c.in-Switch.is, statement_form-Switch) (deeper_of _ _ _ _ _ c.max-in-Switch.ensures c.optional_statement_depth-in-Switch.ensures (deeper_of _ _ _ _ _ c.max-after-in-Switch.ensures c.optional_depth-in-Switch.ensures (c.cases_depth.ensures ∙ ap at_cases c.deref-in-Switch.ensures.value)))

pub below_statement-returns-in-TypeSwitch : goal.below_statement-returns-in-TypeSwitch
unfolding below_statement
below_statement-returns-in-TypeSwitch t c =
    rw (c.in-TypeSwitch.is, statement_form-TypeSwitch) (deeper_of _ _ _ _ _ c.max-in-TypeSwitch.ensures c.optional_statement_depth-in-TypeSwitch.ensures (deeper_of _ _ _ _ _ c.max-after-in-TypeSwitch.ensures (c.expression_depth-in-TypeSwitch.ensures ∙ ap at_expression c.deref-in-TypeSwitch.ensures) (c.cases_depth-in-TypeSwitch.ensures ∙ ap at_cases c.deref-in-TypeSwitch-2.ensures.value)))

pub below_statement-returns-in-Select : goal.below_statement-returns-in-Select
unfolding below_statement
below_statement-returns-in-Select t c =
    rw (c.in-Select.is, statement_form-Select) (c.communications_depth.ensures ∙ ap at_communications c.deref-in-Select.ensures.value)

pub expression_depth-returns-in-KeyValue : goal.expression_depth-returns-in-KeyValue
unfolding expression_depth
expression_depth-returns-in-KeyValue t c =
    c.below_expression-below.ensures ∙ ap capped (sym (pair_counts_nothing _ _ _ _ c.in-KeyValue.is))

pub expression_depth-returns-in_default : goal.expression_depth-returns-in_default
unfolding expression_depth
expression_depth-returns-in_default t c =
    one_more _ _ _ c.saturating_add.ensures c.below_expression-below.ensures
    ∙ ap capped (sym (other_counts_one _ _ c.in_default.not-KeyValue))

pub statement_depth-returns : goal.statement_depth-returns
unfolding statement_depth
statement_depth-returns t c = one_more _ _ _ c.saturating_add.ensures c.below_statement.ensures

pub else_depth-returns-in-Block : goal.else_depth-returns-in-Block
else_depth-returns-in-Block t c =
    else_of_block _ _ _ _ _ _ c.in-Some.is c.deref.ensures c.deref-in-Some.ensures c.in-Block.is c.below_statement-below.ensures

pub else_depth-returns-in_default : goal.else_depth-returns-in_default
else_depth-returns-in_default t c =
    else_of_if _ _ _ _ _ _ c.in-Some.is c.deref.ensures c.deref-in-Some.ensures c.in_default.not-Block c.below_statement-below.ensures c.saturating_add.ensures

pub else_depth-returns-in-None : goal.else_depth-returns-in-None
unfolding else_depth
else_depth-returns-in-None t c = rw c.in-None.is refl

pub optional_depth-returns-in-Some : goal.optional_depth-returns-in-Some
unfolding optional_depth
optional_depth-returns-in-Some t c = rw c.in-Some.is (c.expression_depth.ensures ∙ ap at_expression c.deref.ensures)

pub optional_depth-returns-in-None : goal.optional_depth-returns-in-None
unfolding optional_depth
optional_depth-returns-in-None t c = rw c.in-None.is refl

pub optional_statement_depth-returns-in-Some : goal.optional_statement_depth-returns-in-Some
unfolding optional_statement_depth
optional_statement_depth-returns-in-Some t c = rw c.in-Some.is (c.statement_depth.ensures ∙ ap at_statement c.deref.ensures)

pub optional_statement_depth-returns-in-None : goal.optional_statement_depth-returns-in-None
unfolding optional_statement_depth
optional_statement_depth-returns-in-None t c = rw c.in-None.is refl

pub signature_depth-returns : goal.signature_depth-returns
unfolding signature_depth
signature_depth-returns t c =
    deeper_of _ _ _ _ _ c.max.ensures (c.parameters_depth.ensures ∙ ap at_parameters c.deref.ensures.value) (c.parameters_depth-2.ensures ∙ ap at_parameters c.deref-2.ensures.value)

pub parameter_depth-returns-in-Named : goal.parameter_depth-returns-in-Named
unfolding parameters_depth
parameter_depth-returns-in-Named t c = rw (c.in-Named.is, parameter_and-Named) (c.expression_depth.ensures ∙ ap capped (max-zero _))

pub parameter_depth-returns-in-Unnamed : goal.parameter_depth-returns-in-Unnamed
unfolding parameters_depth
parameter_depth-returns-in-Unnamed t c = rw (c.in-Unnamed.is, parameter_and-Unnamed) (c.expression_depth-in-Unnamed.ensures ∙ ap capped (max-zero _))

pub parameter_depth-returns-in-NameAlone : goal.parameter_depth-returns-in-NameAlone
unfolding parameters_depth
parameter_depth-returns-in-NameAlone t c = rw (c.in-NameAlone.is, parameter_and-NameAlone) refl

pub field_depth-returns-in-Named : goal.field_depth-returns-in-Named
unfolding fields_depth
field_depth-returns-in-Named t c = rw (c.in-Named.is, field_and-Named) (c.expression_depth.ensures ∙ ap capped (max-zero _))

pub field_depth-returns-in-Embedded : goal.field_depth-returns-in-Embedded
unfolding fields_depth
field_depth-returns-in-Embedded t c = rw (c.in-Embedded.is, field_and-Embedded) refl

pub field_depth-returns-in-Element : goal.field_depth-returns-in-Element
unfolding fields_depth
field_depth-returns-in-Element t c = rw (c.in-Element.is, field_and-Element) (c.expression_depth-in-Element.ensures ∙ ap capped (max-zero _))

pub field_depth-returns-in-Method : goal.field_depth-returns-in-Method
unfolding fields_depth
field_depth-returns-in-Method t c = rw (c.in-Method.is, field_and-Method) (c.signature_depth.ensures ∙ ap capped (max-zero _))

pub spec_depth-returns-in-Value : goal.spec_depth-returns-in-Value
unfolding specs_depth
spec_depth-returns-in-Value t c =
    rw (c.in-Value.is, spec_and-Value) (deeper_of _ _ _ _ _ c.max.ensures c.optional_depth.ensures (c.expressions_depth.ensures ∙ ap at_expressions c.deref.ensures.value ∙ ap capped (max-zero _)))

pub spec_depth-returns-in-Type : goal.spec_depth-returns-in-Type
unfolding specs_depth
spec_depth-returns-in-Type t c =
    rw (c.in-Type.is, spec_and-Type) (deeper_of _ _ _ _ _ c.max-in-Type.ensures (c.parameters_depth.ensures ∙ ap at_parameters c.deref-in-Type.ensures.value) (c.expression_depth.ensures ∙ ap at_expression c.deref-in-Type-2.ensures ∙ ap capped (max-zero _)))

pub expressions_depth-loop-expression-preserved : goal.expressions_depth-loop-expression-preserved
unfolding expressions_depth
expressions_depth-loop-expression-preserved t c =
    let items = drop_item c.args.expressions.now c.loop-expression.expression-index c.expression-item.result c.loop-expression-test.true c.expression-item.is in
    and_next _ _ _ _ _ _ _ c.loop-expression.invariant (ap (λ l. expressions_depth (expressions_syntax l)) items) c.expression_depth.ensures c.max-depth.ensures

pub statements_depth-loop-statement-preserved : goal.statements_depth-loop-statement-preserved
unfolding statements_depth
statements_depth-loop-statement-preserved t c =
    let items = drop_item c.args.statements.now c.loop-statement.statement-index c.statement-item.result c.loop-statement-test.true c.statement-item.is in
    and_next _ _ _ _ _ _ _ c.loop-statement.invariant (ap (λ l. statements_depth (statements_syntax l)) items) c.statement_depth.ensures c.max-depth.ensures

pub parameters_depth-loop-param-preserved : goal.parameters_depth-loop-param-preserved
unfolding parameters_depth
parameters_depth-loop-param-preserved t c =
    let items = drop_item c.args.params.now c.loop-param.param-index c.param-item.result c.loop-param-test.true c.param-item.is in
    and_next _ _ _ _ _ _ _ c.loop-param.invariant (ap (λ l. parameters_depth (parameters_syntax l)) items ∙ parameters_more _ _) c.parameter_depth.ensures c.max-depth.ensures

pub fields_depth-loop-field-preserved : goal.fields_depth-loop-field-preserved
unfolding fields_depth
fields_depth-loop-field-preserved t c =
    let items = drop_item c.args.fields.now c.loop-field.field-index c.field-item.result c.loop-field-test.true c.field-item.is in
    and_next _ _ _ _ _ _ _ c.loop-field.invariant (ap (λ l. fields_depth (fields_syntax l)) items ∙ fields_more _ _) c.field_depth.ensures c.max-depth.ensures

pub specs_depth-loop-spec-preserved : goal.specs_depth-loop-spec-preserved
unfolding specs_depth
specs_depth-loop-spec-preserved t c =
    let items = drop_item c.args.specs.now c.loop-spec.spec-index c.spec-item.result c.loop-spec-test.true c.spec-item.is in
    and_next _ _ _ _ _ _ _ c.loop-spec.invariant (ap (λ l. specs_depth (specs_syntax l)) items ∙ specs_more _ _) c.spec_depth.ensures c.max-depth.ensures

pub cases_depth-loop-clause-preserved : goal.cases_depth-loop-clause-preserved
cases_depth-loop-clause-preserved t c =
    let items = drop_item c.args.clauses.now c.loop-clause.clause-index c.clause-item.result c.loop-clause-test.true c.clause-item.is in
    and_next _ _ _ _ _ _ _ c.loop-clause.invariant (ap (λ l. cases_depth (cases_syntax l)) items ∙ cases_more _ _)
    (deeper_of _ _ _ _ _ c.max.ensures (c.expressions_depth-expressions.ensures ∙ ap at_expressions c.deref.ensures.value) (c.statements_depth.ensures ∙ ap at_statements c.deref-in-loop-clause.ensures.value)) c.max-depth.ensures

pub communications_depth-loop-clause-preserved : goal.communications_depth-loop-clause-preserved
communications_depth-loop-clause-preserved t c =
    let items = drop_item c.args.clauses.now c.loop-clause.clause-index c.clause-item.result c.loop-clause-test.true c.clause-item.is in
    and_next _ _ _ _ _ _ _ c.loop-clause.invariant (ap (λ l. communications_depth (communications_syntax l)) items ∙ communications_more _ _)
    (deeper_of _ _ _ _ _ c.max.ensures c.optional_statement_depth-communication.ensures (c.statements_depth.ensures ∙ ap at_statements c.deref.ensures.value)) c.max-depth.ensures

pub expressions_depth-returns : goal.expressions_depth-returns
unfolding expressions_depth
expressions_depth-returns t c =
    let nothing = drop_past c.args.expressions.now c.loop-expression.expression-index c.loop-expression-test.false in
    at_end _ _ _ c.loop-expression.invariant (ap (λ l. expressions_depth (expressions_syntax l)) nothing)

pub statements_depth-returns : goal.statements_depth-returns
unfolding statements_depth
statements_depth-returns t c =
    let nothing = drop_past c.args.statements.now c.loop-statement.statement-index c.loop-statement-test.false in
    at_end _ _ _ c.loop-statement.invariant (ap (λ l. statements_depth (statements_syntax l)) nothing)

pub parameters_depth-returns : goal.parameters_depth-returns
unfolding parameters_depth
parameters_depth-returns t c =
    let nothing = drop_past c.args.params.now c.loop-param.param-index c.loop-param-test.false in
    at_end _ _ _ c.loop-param.invariant (ap (λ l. parameters_depth (parameters_syntax l)) nothing)

pub fields_depth-returns : goal.fields_depth-returns
unfolding fields_depth
fields_depth-returns t c =
    let nothing = drop_past c.args.fields.now c.loop-field.field-index c.loop-field-test.false in
    at_end _ _ _ c.loop-field.invariant (ap (λ l. fields_depth (fields_syntax l)) nothing)

pub specs_depth-returns : goal.specs_depth-returns
unfolding specs_depth
specs_depth-returns t c =
    let nothing = drop_past c.args.specs.now c.loop-spec.spec-index c.loop-spec-test.false in
    at_end _ _ _ c.loop-spec.invariant (ap (λ l. specs_depth (specs_syntax l)) nothing)

pub cases_depth-returns : goal.cases_depth-returns
unfolding cases_depth
cases_depth-returns t c =
    let nothing = drop_past c.args.clauses.now c.loop-clause.clause-index c.loop-clause-test.false in
    at_end _ _ _ c.loop-clause.invariant (ap (λ l. cases_depth (cases_syntax l)) nothing)

pub communications_depth-returns : goal.communications_depth-returns
unfolding communications_depth
communications_depth-returns t c =
    let nothing = drop_past c.args.clauses.now c.loop-clause.clause-index c.loop-clause-test.false in
    at_end _ _ _ c.loop-clause.invariant (ap (λ l. communications_depth (communications_syntax l)) nothing)
