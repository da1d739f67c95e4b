use Rattle.std.proofs.Common.{[], ◌∷◌, map, sym, ap, ◌∙◌, true, Bor, option_map}
use Rattle.tree.specs.declared.expression.Expr.{Expr}
use Rattle.tree.specs.declared.expression.Literal.{Literal, out-Literal}
use Rattle.tree.specs.declared.operator.DeclKeyword.TheVariants.{Var}
use Rattle.tree.specs.declared.span.Identifier.{Identifier}
use Rattle.tree.specs.declared.span.Span.{Span}
use Rattle.tree.specs.declared.statement.Block.{out-Block}
use Rattle.tree.specs.View.{identifier_syntax, expressions_syntax, parameters_syntax, signature_syntax, fields_syntax, statement_form, statements_syntax, cases_syntax, communications_syntax, specs_syntax}
use Rattle.tree.proofs.Depths.{drop_item, drop_past}
use Rattle.tree.proofs.Views.{expression_form-Name, expression_form-BasicLit, expression_form-FuncLit, expression_form-CompositeLit, expression_form-LiteralValue, expression_form-KeyValue, expression_form-Paren, expression_form-Selector, expression_form-Index, expression_form-Instance, expression_form-Slice, low_bound_of, high_bound_of, most_bound_of, expression_form-TypeAssert, expression_form-Call, expression_form-Star, expression_form-Unary, expression_form-Binary, expression_form-ArrayType, expression_form-EllipsisArrayType, expression_form-SliceType, expression_form-MapType, expression_form-ChanType, expression_form-FuncType, expression_form-StructType, expression_form-InterfaceType, statement_form-Empty, statement_form-Decl, statement_form-Labeled, statement_form-Expr, statement_form-Send, statement_form-Increment, statement_form-Decrement, statement_form-Assign, statement_form-AssignOp, statement_form-Define, statement_form-Go, statement_form-Defer, statement_form-Return, statement_form-Break, statement_form-Continue, statement_form-Goto, statement_form-Fallthrough, statement_form-Block, statement_form-If, statement_form-For, statement_form-RangeAssign, statement_form-RangeDefine, statement_form-Switch, statement_form-TypeSwitch, statement_form-Select, block_statements-out, parameter_and-Named, parameter_and-Unnamed, parameter_and-NameAlone, field_and-Named, field_and-Embedded, field_and-Element, field_and-Method, spec_and-Value, spec_and-Type}
use Rattle.meaning.specs.Scopes.{uses_name, declared_names, signature_declared, expression_names, expression_form_names, expressions_names, optional_names, signature_names, parameters_names, fields_names, statement_names, statement_form_names, statements_names, optional_statement_names, cases_names, communications_names, specs_names}
use Rattle.scopes.proofs.Adding.{adds_nothing, adds_same, adds_pushed, adds_next, adds_all, then_adds, same_adds, three_adds, four_adds, alone_adds, type_block, adds_case, adds_communication, parameters_more, fields_more, specs_more, cases_more, communications_more, block_braces-out, literal_names, guard_same}
use Rattle.scopes.proofs.names.+names.Goals as goal

pub expression_form-returns-in_ok-push-in-Name : goal.expression_form-returns-in_ok-push-in-Name
unfolding expression_form_names
expression_form-returns-in_ok-push-in-Name t c =
    rw (c.in-Name.is, expression_form-Name)
    (adds_same _ _ _ _ (ap (λ n. uses_name n c.args.at ∷ []) c.as_str.ensures) (adds_pushed _ _ _ c.in_ok-push-in-Name.ensures.items))

pub expression_form-returns-in-BasicLit : goal.expression_form-returns-in-BasicLit
unfolding expression_form_names
expression_form-returns-in-BasicLit t c = rw (c.in-BasicLit.is, expression_form-BasicLit) (adds_nothing _)

pub expression_form-returns-in_ok-declare_literal-in-FuncLit :
    goal.expression_form-returns-in_ok-declare_literal-in-FuncLit
expression_form-returns-in_ok-declare_literal-in-FuncLit t c =
    let l = c.in-FuncLit.literal.value in
    let s = signature_syntax (out-Literal l).signature in
    let b = out-Block (out-Literal l).body in
    rw (c.in-FuncLit.is, expression_form-FuncLit, literal_names)
    (three_adds c.statements.result c.args.namings.now.items c.signature.new.namings.items c.declare_literal.new.namings.items
    c.statements.new.namings.items (signature_names s) (signature_declared b.span s)
    (statements_names b.span (statements_syntax b.statements.items))
    (adds_same _ _ _ _ (ap (λ (l : Literal). signature_names (signature_syntax (out-Literal l).signature)) c.deref.ensures)
    c.in_ok-signature-in-FuncLit.ensures)
    (adds_same _ _ _ _
    (ap (λ (l : Literal). signature_declared (out-Block (out-Literal l).body).span (signature_syntax (out-Literal l).signature))
    c.deref-in-FuncLit.ensures)
    c.in_ok-declare_literal-in-FuncLit.ensures)
    (same_adds _ _ _ _ _
    (ap (λ l. statements_names (out-Block (out-Literal c.deref-in-FuncLit-2.result.now).body).span (statements_syntax l))
    c.deref-in-FuncLit-4.ensures.value
    ∙ (λ i. statements_names (out-Block (out-Literal (c.deref-in-FuncLit-2.ensures i)).body).span
    (statements_syntax (out-Block (out-Literal (c.deref-in-FuncLit-3.ensures i)).body).statements.items)))
    c.statements.ensures))

pub expression_form-returns-in_ok-expression-in-CompositeLit : goal.expression_form-returns-in_ok-expression-in-CompositeLit
unfolding expression_form_names
expression_form-returns-in_ok-expression-in-CompositeLit t c =
    rw (c.in-CompositeLit.is, expression_form-CompositeLit, ← c.deref-in-CompositeLit.ensures, ← c.deref-in-CompositeLit-2.ensures.value)
    (then_adds _ _ _ _ _ _ c.in_ok-expression-in-CompositeLit.ensures c.expressions.ensures)

pub expression_form-returns-in-LiteralValue : goal.expression_form-returns-in-LiteralValue
unfolding expression_form_names
expression_form-returns-in-LiteralValue t c =
    rw (c.in-LiteralValue.is, expression_form-LiteralValue, ← c.deref-in-LiteralValue.ensures.value)
    c.expressions-in-LiteralValue.ensures

pub expression_form-returns-in_ok-element_key-in-KeyValue : goal.expression_form-returns-in_ok-element_key-in-KeyValue
unfolding expression_form_names
expression_form-returns-in_ok-element_key-in-KeyValue t c =
    rw (c.in-KeyValue.is, expression_form-KeyValue, ← c.deref-in-KeyValue.ensures, ← c.deref-in-KeyValue-2.ensures)
    (then_adds _ _ _ _ _ _ c.in_ok-element_key-in-KeyValue.ensures c.expression-in-KeyValue.ensures)

pub expression_form-returns-in-Paren : goal.expression_form-returns-in-Paren
unfolding expression_form_names
expression_form-returns-in-Paren t c =
    rw (c.in-Paren.is, expression_form-Paren, ← c.deref-in-Paren.ensures)
    c.expression-in-Paren.ensures

pub expression_form-returns-in-Selector : goal.expression_form-returns-in-Selector
unfolding expression_form_names
expression_form-returns-in-Selector t c =
    rw (c.in-Selector.is, expression_form-Selector, ← c.deref-in-Selector.ensures)
    c.expression-in-Selector.ensures

pub expression_form-returns-in_ok-expression-in-Index : goal.expression_form-returns-in_ok-expression-in-Index
unfolding expression_form_names
expression_form-returns-in_ok-expression-in-Index t c =
    rw (c.in-Index.is, expression_form-Index, ← c.deref-in-Index.ensures, ← c.deref-in-Index-2.ensures)
    (then_adds _ _ _ _ _ _ c.in_ok-expression-in-Index.ensures c.expression-in-Index-2.ensures)

pub expression_form-returns-in_ok-expression-in-Instance : goal.expression_form-returns-in_ok-expression-in-Instance
unfolding expression_form_names
expression_form-returns-in_ok-expression-in-Instance t c =
    rw (c.in-Instance.is, expression_form-Instance, ← c.deref-in-Instance.ensures, ← c.deref-in-Instance-2.ensures.value)
    (then_adds _ _ _ _ _ _ c.in_ok-expression-in-Instance.ensures c.expressions-in-Instance.ensures)

pub expression_form-returns-in_ok-optional-in-Slice-2 : goal.expression_form-returns-in_ok-optional-in-Slice-2
unfolding expression_form_names
expression_form-returns-in_ok-optional-in-Slice-2 t c =
    rw (
      c.in-Slice.is,
      expression_form-Slice,
      ← c.deref-in-Slice.ensures,
      ← low_bound_of c.deref-in-Slice-2.ensures,
      ← high_bound_of c.deref-in-Slice-3.ensures,
      ← most_bound_of c.deref-in-Slice-4.ensures,
    )
    (four_adds _ _ _ _ _ _ _ _ _ _ c.in_ok-expression-in-Slice.ensures c.in_ok-optional-in-Slice.ensures c.in_ok-optional-in-Slice-2.ensures
    c.optional-in-Slice-2.ensures)

pub expression_form-returns-in_ok-expression-in-TypeAssert : goal.expression_form-returns-in_ok-expression-in-TypeAssert
unfolding expression_form_names
expression_form-returns-in_ok-expression-in-TypeAssert t c =
    rw (c.in-TypeAssert.is, expression_form-TypeAssert, ← c.deref-in-TypeAssert.ensures, ← c.deref-in-TypeAssert-2.ensures)
    (then_adds _ _ _ _ _ _ c.in_ok-expression-in-TypeAssert.ensures c.expression-in-TypeAssert-2.ensures)

pub expression_form-returns-in_ok-expression-in-Call : goal.expression_form-returns-in_ok-expression-in-Call
unfolding expression_form_names
expression_form-returns-in_ok-expression-in-Call t c =
    rw (c.in-Call.is, expression_form-Call, ← c.deref-in-Call.ensures, ← c.deref-in-Call-2.ensures.value)
    (then_adds _ _ _ _ _ _ c.in_ok-expression-in-Call.ensures c.expressions-in-Call.ensures)

pub expression_form-returns-in-Star : goal.expression_form-returns-in-Star
unfolding expression_form_names
expression_form-returns-in-Star t c =
    rw (c.in-Star.is, expression_form-Star, ← c.deref-in-Star.ensures)
    c.expression-in-Star.ensures

pub expression_form-returns-in-Unary : goal.expression_form-returns-in-Unary
unfolding expression_form_names
expression_form-returns-in-Unary t c =
    rw (c.in-Unary.is, expression_form-Unary, ← c.deref-in-Unary.ensures)
    c.expression-in-Unary.ensures

pub expression_form-returns-in_ok-expression-in-Binary : goal.expression_form-returns-in_ok-expression-in-Binary
unfolding expression_form_names
expression_form-returns-in_ok-expression-in-Binary t c =
    rw (c.in-Binary.is, expression_form-Binary, ← c.deref-in-Binary.ensures, ← c.deref-in-Binary-2.ensures)
    (then_adds _ _ _ _ _ _ c.in_ok-expression-in-Binary.ensures c.expression-in-Binary-2.ensures)

pub expression_form-returns-in_ok-expression-in-ArrayType : goal.expression_form-returns-in_ok-expression-in-ArrayType
unfolding expression_form_names
expression_form-returns-in_ok-expression-in-ArrayType t c =
    rw (c.in-ArrayType.is, expression_form-ArrayType, ← c.deref-in-ArrayType.ensures, ← c.deref-in-ArrayType-2.ensures)
    (then_adds _ _ _ _ _ _ c.in_ok-expression-in-ArrayType.ensures c.expression-in-ArrayType-2.ensures)

pub expression_form-returns-in-EllipsisArrayType : goal.expression_form-returns-in-EllipsisArrayType
unfolding expression_form_names
expression_form-returns-in-EllipsisArrayType t c =
    rw (c.in-EllipsisArrayType.is, expression_form-EllipsisArrayType, ← c.deref-in-EllipsisArrayType.ensures)
    c.expression-in-EllipsisArrayType.ensures

pub expression_form-returns-in-SliceType : goal.expression_form-returns-in-SliceType
unfolding expression_form_names
expression_form-returns-in-SliceType t c =
    rw (c.in-SliceType.is, expression_form-SliceType, ← c.deref-in-SliceType.ensures)
    c.expression-in-SliceType.ensures

pub expression_form-returns-in_ok-expression-in-MapType : goal.expression_form-returns-in_ok-expression-in-MapType
unfolding expression_form_names
expression_form-returns-in_ok-expression-in-MapType t c =
    rw (c.in-MapType.is, expression_form-MapType, ← c.deref-in-MapType.ensures, ← c.deref-in-MapType-2.ensures)
    (then_adds _ _ _ _ _ _ c.in_ok-expression-in-MapType.ensures c.expression-in-MapType-2.ensures)

pub expression_form-returns-in-ChanType : goal.expression_form-returns-in-ChanType
unfolding expression_form_names
expression_form-returns-in-ChanType t c =
    rw (c.in-ChanType.is, expression_form-ChanType, ← c.deref-in-ChanType.ensures)
    c.expression-in-ChanType.ensures

pub expression_form-returns-in-FuncType : goal.expression_form-returns-in-FuncType
unfolding expression_form_names
expression_form-returns-in-FuncType t c =
    rw (c.in-FuncType.is, expression_form-FuncType, ← c.deref-in-FuncType.ensures)
    c.signature-in-FuncType.ensures

pub expression_form-returns-in-StructType : goal.expression_form-returns-in-StructType
unfolding expression_form_names
expression_form-returns-in-StructType t c =
    rw (c.in-StructType.is, expression_form-StructType, ← c.deref-in-StructType.ensures.value)
    c.fields.ensures

pub expression_form-returns-in-InterfaceType : goal.expression_form-returns-in-InterfaceType
unfolding expression_form_names
expression_form-returns-in-InterfaceType t c =
    rw (c.in-InterfaceType.is, expression_form-InterfaceType, ← c.deref-in-InterfaceType.ensures.value)
    c.fields-in-InterfaceType.ensures

pub statement_form-returns-in-Empty : goal.statement_form-returns-in-Empty
unfolding statement_form_names
statement_form-returns-in-Empty t c = rw (c.in-Empty.is, statement_form-Empty) (adds_nothing _)

pub statement_form-returns-in-Decl : goal.statement_form-returns-in-Decl
unfolding statement_form_names
statement_form-returns-in-Decl t c =
    rw (c.in-Decl.is, statement_form-Decl, ← c.deref.ensures.value)
    c.specs.ensures

pub statement_form-returns-in-Labeled : goal.statement_form-returns-in-Labeled
unfolding statement_form_names
statement_form-returns-in-Labeled t c =
    rw (c.in-Labeled.is, statement_form-Labeled, ← c.deref-in-Labeled.ensures)
    c.statement.ensures

pub statement_form-returns-in-Expr : goal.statement_form-returns-in-Expr
unfolding statement_form_names
statement_form-returns-in-Expr t c =
    rw (c.in-Expr.is, statement_form-Expr)
    c.expression.ensures

pub statement_form-returns-in_ok-expression-in-Send : goal.statement_form-returns-in_ok-expression-in-Send
unfolding statement_form_names
statement_form-returns-in_ok-expression-in-Send t c =
    rw (c.in-Send.is, statement_form-Send, ← c.deref-in-Send.ensures, ← c.deref-in-Send-2.ensures)
    (then_adds _ _ _ _ _ _ c.in_ok-expression-in-Send.ensures c.expression-in-Send-2.ensures)

pub statement_form-returns-in-Increment : goal.statement_form-returns-in-Increment
unfolding statement_form_names
statement_form-returns-in-Increment t c =
    rw (c.in-Increment.is, statement_form-Increment)
    c.expression-in-Increment.ensures

pub statement_form-returns-in-Decrement : goal.statement_form-returns-in-Decrement
unfolding statement_form_names
statement_form-returns-in-Decrement t c =
    rw (c.in-Decrement.is, statement_form-Decrement)
    c.expression-in-Decrement.ensures

pub statement_form-returns-in_ok-expressions-in-Assign : goal.statement_form-returns-in_ok-expressions-in-Assign
unfolding statement_form_names
statement_form-returns-in_ok-expressions-in-Assign t c =
    rw (c.in-Assign.is, statement_form-Assign, ← c.deref-in-Assign.ensures.value, ← c.deref-in-Assign-2.ensures.value)
    (then_adds _ _ _ _ _ _ c.in_ok-expressions-in-Assign.ensures c.expressions-in-Assign.ensures)

pub statement_form-returns-in_ok-expression-in-AssignOp : goal.statement_form-returns-in_ok-expression-in-AssignOp
unfolding statement_form_names
statement_form-returns-in_ok-expression-in-AssignOp t c =
    rw (c.in-AssignOp.is, statement_form-AssignOp, ← c.deref-in-AssignOp.ensures, ← c.deref-in-AssignOp-2.ensures)
    (then_adds _ _ _ _ _ _ c.in_ok-expression-in-AssignOp.ensures c.expression-in-AssignOp-2.ensures)

pub statement_form-returns-in_ok-expressions-in-Define : goal.statement_form-returns-in_ok-expressions-in-Define
unfolding statement_form_names
statement_form-returns-in_ok-expressions-in-Define t c =
    rw (c.in-Define.is, statement_form-Define, ← c.deref-in-Define.ensures.value, ← c.deref-in-Define-2.ensures.value)
    (then_adds _ _ _ _ _ _ c.in_ok-expressions-in-Define.ensures c.declare_short.ensures)

pub statement_form-returns-in-Go : goal.statement_form-returns-in-Go
unfolding statement_form_names
statement_form-returns-in-Go t c =
    rw (c.in-Go.is, statement_form-Go)
    c.expression-in-Go.ensures

pub statement_form-returns-in-Defer : goal.statement_form-returns-in-Defer
unfolding statement_form_names
statement_form-returns-in-Defer t c =
    rw (c.in-Defer.is, statement_form-Defer)
    c.expression-in-Defer.ensures

pub statement_form-returns-in-Return : goal.statement_form-returns-in-Return
unfolding statement_form_names
statement_form-returns-in-Return t c =
    rw (c.in-Return.is, statement_form-Return, ← c.deref-in-Return.ensures.value)
    c.expressions-in-Return.ensures

pub statement_form-returns-in-Break : goal.statement_form-returns-in-Break
unfolding statement_form_names
statement_form-returns-in-Break t c = rw (c.in-Break.is, statement_form-Break) (adds_nothing _)

pub statement_form-returns-in-Continue : goal.statement_form-returns-in-Continue
unfolding statement_form_names
statement_form-returns-in-Continue t c = rw (c.in-Continue.is, statement_form-Continue) (adds_nothing _)

pub statement_form-returns-in-Goto : goal.statement_form-returns-in-Goto
unfolding statement_form_names
statement_form-returns-in-Goto t c = rw (c.in-Goto.is, statement_form-Goto) (adds_nothing _)

pub statement_form-returns-in-Fallthrough : goal.statement_form-returns-in-Fallthrough
unfolding statement_form_names
statement_form-returns-in-Fallthrough t c = rw (c.in-Fallthrough.is, statement_form-Fallthrough) (adds_nothing _)

pub statement_form-returns-in-Block : goal.statement_form-returns-in-Block
unfolding statement_form_names
statement_form-returns-in-Block t c =
    rw (c.in-Block.is, statement_form-Block, block_statements-out, block_braces-out, ← c.deref-in-Block.ensures.value)
    c.statements.ensures

pub statement_form-returns-in_ok-statements-in-If : goal.statement_form-returns-in_ok-statements-in-If
unfolding statement_form_names
statement_form-returns-in_ok-statements-in-If t c =
    rw (c.in-If.is, statement_form-If, block_statements-out, block_braces-out, ← c.deref-in-If.ensures, ← c.deref-in-If-2.ensures.value)
    (four_adds _ _ _ _ _ _ _ _ _ _ c.in_ok-optional_statement-in-If.ensures c.in_ok-expression-in-If.ensures c.in_ok-statements-in-If.ensures
    c.optional_statement-in-If.ensures)

pub statement_form-returns-in_ok-optional_statement-in-For-2 : goal.statement_form-returns-in_ok-optional_statement-in-For-2
unfolding statement_form_names
statement_form-returns-in_ok-optional_statement-in-For-2 t c =
    rw (c.in-For.is, statement_form-For, block_statements-out, block_braces-out, ← c.deref-in-For.ensures.value)
    (four_adds _ _ _ _ _ _ _ _ _ _ c.in_ok-optional_statement-in-For.ensures c.in_ok-optional-in-For.ensures
    c.in_ok-optional_statement-in-For-2.ensures c.statements-in-For.ensures)

pub statement_form-returns-in_ok-expression-in-RangeAssign : goal.statement_form-returns-in_ok-expression-in-RangeAssign
unfolding statement_form_names
statement_form-returns-in_ok-expression-in-RangeAssign t c =
    rw (
      c.in-RangeAssign.is,
      statement_form-RangeAssign,
      block_statements-out,
      block_braces-out,
      ← c.deref-in-RangeAssign.ensures.value,
      ← c.deref-in-RangeAssign-2.ensures,
      ← c.deref-in-RangeAssign-3.ensures.value,
    )
    (three_adds _ _ _ _ _ _ _ _ c.in_ok-expressions-in-RangeAssign.ensures c.in_ok-expression-in-RangeAssign.ensures c.statements-in-RangeAssign.ensures)

pub statement_form-returns-in_ok-declare_short-in-RangeDefine : goal.statement_form-returns-in_ok-declare_short-in-RangeDefine
unfolding statement_form_names
statement_form-returns-in_ok-declare_short-in-RangeDefine t c =
    rw (
      c.in-RangeDefine.is,
      statement_form-RangeDefine,
      block_statements-out,
      block_braces-out,
      ← c.deref-in-RangeDefine.ensures,
      ← c.deref-in-RangeDefine-3.ensures.value,
      ← c.deref-in-RangeDefine-4.ensures.value,
    )
    (three_adds _ _ _ _ _ _ _ _ c.in_ok-expression-in-RangeDefine.ensures
    (adds_same c.expression-in-RangeDefine.new.namings.items c.declare_short-in-RangeDefine.new.namings.items _ _
    (ap (λ (e : Expr). declared_names Var c.args.span e.span.end true (map identifier_syntax c.deref-in-RangeDefine-3.result.now))
    (c.deref-in-RangeDefine-2.ensures ∙ sym c.deref-in-RangeDefine.ensures))
    c.in_ok-declare_short-in-RangeDefine.ensures) c.statements-in-RangeDefine.ensures)

pub statement_form-returns-in_ok-optional-in-Switch : goal.statement_form-returns-in_ok-optional-in-Switch
unfolding statement_form_names
statement_form-returns-in_ok-optional-in-Switch t c =
    rw (c.in-Switch.is, statement_form-Switch, ← c.deref-in-Switch.ensures.value)
    (three_adds _ _ _ _ _ _ _ _ c.in_ok-optional_statement-in-Switch.ensures c.in_ok-optional-in-Switch.ensures c.cases.ensures)

pub statement_form-returns-in_ok-expression-in-TypeSwitch : goal.statement_form-returns-in_ok-expression-in-TypeSwitch
unfolding statement_form_names
statement_form-returns-in_ok-expression-in-TypeSwitch t c =
    rw (
      c.in-TypeSwitch.is,
      statement_form-TypeSwitch,
      ← c.deref-in-TypeSwitch.ensures,
      ← c.deref-in-TypeSwitch-2.ensures.value,
      ← guard_same _ _ c.as_ref.ensures.value,
    )
    (three_adds _ _ _ _ _ _ _ _ c.in_ok-optional_statement-in-TypeSwitch.ensures c.in_ok-expression-in-TypeSwitch.ensures c.cases-in-TypeSwitch.ensures)

pub statement_form-returns-in-Select : goal.statement_form-returns-in-Select
unfolding statement_form_names
statement_form-returns-in-Select t c =
    rw (c.in-Select.is, statement_form-Select, ← c.deref-in-Select.ensures.value)
    c.communications.ensures

pub expression-returns : goal.expression-returns
unfolding expression_names
expression-returns t c = c.expression_form.ensures

pub statement-returns : goal.statement-returns
unfolding statement_names
statement-returns t c =
    same_adds _ _ _ _ _
    (ap (λ (s : Span). statement_form_names c.args.block s (statement_form c.args.statement.now.kind)) c.statement_block.ensures)
    c.statement_form.ensures

pub optional-returns-in-Some : goal.optional-returns-in-Some
unfolding optional_names
optional-returns-in-Some t c = rw (c.in-Some.is, ← c.deref.ensures) c.expression.ensures

pub optional-returns-in-None : goal.optional-returns-in-None
unfolding optional_names
optional-returns-in-None t c = rw c.in-None.is (adds_nothing _)

pub optional_statement-returns-in-Some : goal.optional_statement-returns-in-Some
unfolding optional_statement_names
optional_statement-returns-in-Some t c = rw (c.in-Some.is, ← c.deref.ensures) c.statement.ensures

pub optional_statement-returns-in-None : goal.optional_statement-returns-in-None
unfolding optional_statement_names
optional_statement-returns-in-None t c = rw c.in-None.is (adds_nothing _)

pub signature-returns : goal.signature-returns
unfolding signature_names
signature-returns t c =
    rw (← c.deref.ensures.value, ← c.deref-2.ensures.value)
    (then_adds _ _ _ _ _ _ c.in_ok-parameters.ensures c.parameters-2.ensures)

pub parameter-returns-in-Named : goal.parameter-returns-in-Named
unfolding parameters_names
parameter-returns-in-Named t c = rw (c.in-Named.is, parameter_and-Named) (alone_adds _ _ _ _ c.expression.ensures)

pub parameter-returns-in-Unnamed : goal.parameter-returns-in-Unnamed
unfolding parameters_names
parameter-returns-in-Unnamed t c =
    rw (c.in-Unnamed.is, parameter_and-Unnamed) (alone_adds _ _ _ _ c.expression-in-Unnamed.ensures)

pub parameter-returns-in-NameAlone : goal.parameter-returns-in-NameAlone
unfolding parameters_names
parameter-returns-in-NameAlone t c = rw (c.in-NameAlone.is, parameter_and-NameAlone) (adds_nothing _)

pub field-returns-in-Named : goal.field-returns-in-Named
unfolding fields_names
field-returns-in-Named t c = rw (c.in-Named.is, field_and-Named) (alone_adds _ _ _ _ c.expression.ensures)

pub field-returns-in-Embedded : goal.field-returns-in-Embedded
unfolding fields_names
field-returns-in-Embedded t c = rw (c.in-Embedded.is, field_and-Embedded) (alone_adds _ _ _ _ c.embedded.ensures)

pub field-returns-in-Element : goal.field-returns-in-Element
unfolding fields_names
field-returns-in-Element t c = rw (c.in-Element.is, field_and-Element) (alone_adds _ _ _ _ c.expression-in-Element.ensures)

pub field-returns-in-Method : goal.field-returns-in-Method
unfolding fields_names
field-returns-in-Method t c = rw (c.in-Method.is, field_and-Method) (alone_adds _ _ _ _ c.signature.ensures)

pub spec-returns-in_ok-expressions-in-Value : goal.spec-returns-in_ok-expressions-in-Value
unfolding specs_names
spec-returns-in_ok-expressions-in-Value t c =
    rw (c.in-Value.is, spec_and-Value, ← c.deref.ensures.value, ← c.deref-in-Value.ensures.value)
    (three_adds c.declare_names.result _ _ _ c.declare_names.new.namings.items _ _ _ c.in_ok-optional-in-Value.ensures
    c.in_ok-expressions-in-Value.ensures (alone_adds _ _ _ _ c.declare_names.ensures))

pub spec-returns-in_ok-parameters-in-Type : goal.spec-returns-in_ok-parameters-in-Type
unfolding specs_names
spec-returns-in_ok-parameters-in-Type t c =
    rw (c.in-Type.is, spec_and-Type, ← c.deref-in-Type-2.ensures.value, ← c.deref-in-Type-3.ensures)
    (four_adds _ _ _ _ _ _ _ _ _ _ c.in_ok-declare_type-in-Type.ensures
    (adds_same _ _ _ _ (type_block _ _ _ _ c.behind_name.ensures (c.deref-in-Type.ensures.value ∙ sym c.deref-in-Type-2.ensures.value))
    c.in_ok-declare_type_parameters-in-Type.ensures)
    c.in_ok-parameters-in-Type.ensures (alone_adds _ _ _ _ c.expression.ensures))

pub expressions-loop-item-preserved : goal.expressions-loop-item-preserved
unfolding expressions_names
expressions-loop-item-preserved t c =
    let items = drop_item c.args.list.now c.loop-item.item-index c.item-item.result c.loop-item-test.true c.item-item.is in
    adds_next _ _ _ _ _ _ c.loop-item.invariant (ap (λ l. expressions_names (expressions_syntax l)) items) c.in_ok-expression.ensures

pub expressions-returns : goal.expressions-returns
unfolding expressions_names
expressions-returns t c =
    let nothing = drop_past c.args.list.now c.loop-item.item-index c.loop-item-test.false in
    adds_all c.args.namings.now.items _ _ (expressions_names (expressions_syntax c.args.list.now)) c.loop-item.invariant
    (ap (λ l. expressions_names (expressions_syntax l)) nothing)

pub statements-loop-item-preserved : goal.statements-loop-item-preserved
unfolding statements_names
statements-loop-item-preserved t c =
    let items = drop_item c.args.list.now c.loop-item.item-index c.item-item.result c.loop-item-test.true c.item-item.is in
    adds_next _ _ _ _ _ _ c.loop-item.invariant (ap (λ l. statements_names c.args.block (statements_syntax l)) items) c.in_ok-statement.ensures

pub statements-returns : goal.statements-returns
unfolding statements_names
statements-returns t c =
    let nothing = drop_past c.args.list.now c.loop-item.item-index c.loop-item-test.false in
    adds_all c.args.namings.now.items _ _ (statements_names c.args.block (statements_syntax c.args.list.now)) c.loop-item.invariant
    (ap (λ l. statements_names c.args.block (statements_syntax l)) nothing)

pub parameters-loop-item-preserved : goal.parameters-loop-item-preserved
unfolding parameters_names
parameters-loop-item-preserved t c =
    let items = drop_item c.args.list.now c.loop-item.item-index c.item-item.result c.loop-item-test.true c.item-item.is in
    adds_next _ _ _ _ _ _ c.loop-item.invariant (ap (λ l. parameters_names (parameters_syntax l)) items ∙ parameters_more _ _) c.in_ok-parameter.ensures

pub parameters-returns : goal.parameters-returns
unfolding parameters_names
parameters-returns t c =
    let nothing = drop_past c.args.list.now c.loop-item.item-index c.loop-item-test.false in
    adds_all c.args.namings.now.items _ _ (parameters_names (parameters_syntax c.args.list.now)) c.loop-item.invariant
    (ap (λ l. parameters_names (parameters_syntax l)) nothing)

pub fields-loop-item-preserved : goal.fields-loop-item-preserved
unfolding fields_names
fields-loop-item-preserved t c =
    let items = drop_item c.args.list.now c.loop-item.item-index c.item-item.result c.loop-item-test.true c.item-item.is in
    adds_next _ _ _ _ _ _ c.loop-item.invariant (ap (λ l. fields_names (fields_syntax l)) items ∙ fields_more _ _) c.in_ok-field.ensures

pub fields-returns : goal.fields-returns
unfolding fields_names
fields-returns t c =
    let nothing = drop_past c.args.list.now c.loop-item.item-index c.loop-item-test.false in
    adds_all c.args.namings.now.items _ _ (fields_names (fields_syntax c.args.list.now)) c.loop-item.invariant
    (ap (λ l. fields_names (fields_syntax l)) nothing)

pub specs-loop-item-preserved : goal.specs-loop-item-preserved
unfolding specs_names
specs-loop-item-preserved t c =
    let items = drop_item c.args.list.now c.loop-item.item-index c.item-item.result c.loop-item-test.true c.item-item.is in
    adds_next _ _ _ _ _ _ c.loop-item.invariant (ap (λ l. specs_names c.args.block c.args.keyword (specs_syntax l)) items ∙ specs_more _ _ _ _)
    c.in_ok-spec.ensures

pub specs-returns : goal.specs-returns
unfolding specs_names
specs-returns t c =
    let nothing = drop_past c.args.list.now c.loop-item.item-index c.loop-item-test.false in
    adds_all c.args.namings.now.items _ _ (specs_names c.args.block c.args.keyword (specs_syntax c.args.list.now)) c.loop-item.invariant
    (ap (λ l. specs_names c.args.block c.args.keyword (specs_syntax l)) nothing)

pub cases-loop-clause-preserved : goal.cases-loop-clause-preserved
cases-loop-clause-preserved t c =
    let guard = option_map (λ (n : Bor Identifier). identifier_syntax n.now) c.args.guard in
    let items = drop_item c.args.clauses.now c.loop-clause.clause-index c.clause-item.result c.loop-clause-test.true c.clause-item.is in
    adds_next _ _ _ _ _ _ c.loop-clause.invariant (ap (λ l. cases_names guard (cases_syntax l)) items ∙ cases_more guard c.clause-item.result _)
    (adds_case guard c.clause-item.result _ _ _ _ _ _ _ c.deref.ensures.value c.in_ok-declare_guard.ensures
    c.deref-in-loop-clause.ensures.value c.in_ok-expressions.ensures c.deref-in-loop-clause-2.ensures.value c.in_ok-statements.ensures)

pub cases-returns : goal.cases-returns
unfolding cases_names
cases-returns t c =
    let guard = option_map (λ (n : Bor Identifier). identifier_syntax n.now) c.args.guard in
    let nothing = drop_past c.args.clauses.now c.loop-clause.clause-index c.loop-clause-test.false in
    adds_all c.args.namings.now.items _ _ (cases_names guard (cases_syntax c.args.clauses.now)) c.loop-clause.invariant
    (ap (λ l. cases_names guard (cases_syntax l)) nothing)

pub communications-loop-clause-preserved : goal.communications-loop-clause-preserved
communications-loop-clause-preserved t c =
    let items = drop_item c.args.clauses.now c.loop-clause.clause-index c.clause-item.result c.loop-clause-test.true c.clause-item.is in
    adds_next _ _ _ _ _ _ c.loop-clause.invariant (ap (λ l. communications_names (communications_syntax l)) items ∙ communications_more c.clause-item.result _)
    (adds_communication c.clause-item.result c.clause_block-block.result _ _ _ _ c.clause_block-block.ensures c.in_ok-optional_statement.ensures
    c.deref.ensures.value c.in_ok-statements.ensures)

pub communications-returns : goal.communications-returns
unfolding communications_names
communications-returns t c =
    let nothing = drop_past c.args.clauses.now c.loop-clause.clause-index c.loop-clause-test.false in
    adds_all c.args.namings.now.items _ _ (communications_names (communications_syntax c.args.clauses.now)) c.loop-clause.invariant
    (ap (λ l. communications_names (communications_syntax l)) nothing)
