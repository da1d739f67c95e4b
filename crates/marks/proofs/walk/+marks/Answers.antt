use Rattle.std.proofs.Common.{[], ◌∷◌, ◌++◌, ◌+◌, ◌-◌, drop, refl, sym, ap, ◌∙◌, true, false, Some, None, Bor, option_map}
use Rattle.tree.specs.declared.expression.Expr.{Expr}
use Rattle.tree.specs.declared.span.Identifier.{Identifier}
use Rattle.tree.specs.declared.statement.Block.{out-Block}
use Rattle.tree.specs.declared.statement.CaseClause.{out-CaseClause}
use Rattle.tree.specs.View.{identifier_syntax, expression_syntax, expressions_syntax, optional_expression_syntax, parameters_syntax, fields_syntax, statement_syntax, statements_syntax, optional_statement_syntax, cases_syntax, communications_syntax, specs_syntax}
use Rattle.tree.proofs.Depths.{drop_item, drop_past}
use Rattle.tree.proofs.Views.{expression_form-Name, expression_form-BasicLit, expression_form-FuncLit, expression_form-CompositeLit, expression_form-LiteralValue, expression_form-KeyValue, expression_form-Paren, expression_form-Selector, expression_form-Index, expression_form-Instance, expression_form-Slice, low_bound_of, high_bound_of, most_bound_of, expression_form-TypeAssert, expression_form-Call, expression_form-Star, expression_form-Unary, expression_form-Binary, expression_form-ArrayType, expression_form-EllipsisArrayType, expression_form-SliceType, expression_form-MapType, expression_form-ChanType, expression_form-FuncType, expression_form-StructType, expression_form-InterfaceType, statement_form-Empty, statement_form-Decl, statement_form-Labeled, statement_form-Expr, statement_form-Send, statement_form-Increment, statement_form-Decrement, statement_form-Assign, statement_form-AssignOp, statement_form-Define, statement_form-Go, statement_form-Defer, statement_form-Return, statement_form-Break, statement_form-Continue, statement_form-Goto, statement_form-Fallthrough, statement_form-Block, statement_form-If, statement_form-For, statement_form-RangeAssign, statement_form-RangeDefine, statement_form-Switch, statement_form-TypeSwitch, statement_form-Select, block_statements-out, parameter_and-Named, parameter_and-Unnamed, parameter_and-NameAlone, field_and-Named, field_and-Embedded, field_and-Element, field_and-Method, spec_and-Value, spec_and-Type}
use Rattle.mentions.specs.MarkViews.{named_view, place_view, call_view, optional_call, role_view, row_view, spot_view, standing_view}
use Rattle.meaning.specs.Scopes.{parameters_named}
use Rattle.meaning.specs.Mentions.{Spot, declared_elsewhere, bare, addressed, as_bare, as_statement, argument, argument_at, argument_or, arguments_place, argument_spot, argument_taker, as_key, callee_or, deferred, under_go, field_called, field_written, given_to, receiver_given, sent, left, named_or, names_type, place_in, return_item, as_named, select_from, call_of, mention, elsewhere, part_of, whole, expression_marks, form_marks, expressions_marks, optional_marks, arguments_marks, items_marks, lefts_marks, ranged_marks, exposed_or, ordinary, first_row, row_in, behind_row, guard_marks, nil_where, nil_marks, names_type_marks, signature_marks, parameters_marks, fields_marks, statement_marks, statement_form_marks, statements_marks, optional_statement_marks, cases_marks, communications_marks, specs_marks}
use Rattle.mentions.proofs.Adding.{same_adds as raw_same}
use Rattle.marks.proofs.AddingBy.{left_names_kept, elsewhere_kept, guard_kept, mention_kept, alone_kept, adds_kept, kept_adds, adds_nothing, adds_same, adds_then, adds_next, adds_all, then_adds, same_adds, three_adds, four_adds, alone_adds}
use Rattle.marks.proofs.WalkLists.{adds_case, adds_communication, body_adds, opens_kept, block_braces-out, parameters_more, fields_more, specs_more, cases_more, communications_more, literal_marks, guard_same}
use Rattle.marks.proofs.WalkSteps.{at_spot, all_at_spot, adds_at_spot, named_at_spot, named_adds, call_adds, assigned_row, assignment_adds, defined_row, definition_adds, declared_same, spec_adds, return_adds, no_operator, operator_argument, argument_first, item_first, left_first, ranged_first, assigned_at, statement_first, branch_adds, place_finds}
use Rattle.marks.proofs.walk.+marks.Goals as goal

pub expression_form-returns-in-Name : goal.expression_form-returns-in-Name
unfolding form_marks
expression_form-returns-in-Name t c =
    rw (c.in-Name.is, expression_form-Name)
    (kept_adds _ _ _ _ (mention_kept _ (place_finds (place_view c.args.spot.place)) _ _)
    (raw_same _ _ _ _ _ (λ i. mention c.args.spot.site (c.name_role-role.ensures i) (bare (c.as_str.ensures i) c.args.span.start) ∷ []) c.mention.ensures))

pub expression_form-returns-in-BasicLit : goal.expression_form-returns-in-BasicLit
unfolding form_marks
expression_form-returns-in-BasicLit t c = rw (c.in-BasicLit.is, expression_form-BasicLit) (adds_nothing _)

pub expression_form-returns-in-FuncLit : goal.expression_form-returns-in-FuncLit
unfolding form_marks
expression_form-returns-in-FuncLit t c =
    rw (c.in-FuncLit.is, expression_form-FuncLit, ← c.deref.ensures)
    c.function_literal.ensures

pub expression_form-returns-in_ok-part-in-CompositeLit : goal.expression_form-returns-in_ok-part-in-CompositeLit
unfolding form_marks
expression_form-returns-in_ok-part-in-CompositeLit t c =
    rw (c.in-CompositeLit.is, expression_form-CompositeLit, ← c.deref-in-CompositeLit.ensures, ← c.deref-in-CompositeLit-2.ensures.value)
    (then_adds _ _ _ _ _ (expressions_marks (part_of c.args.spot.site) (expressions_syntax c.deref-in-CompositeLit-2.result.now))
    c.in_ok-part-in-CompositeLit.ensures
    (all_at_spot c.expressions.result c.part.new.walk c.expressions.new.walk (spot_view c.part_of.result)
    (part_of c.args.spot.site) (expressions_syntax c.deref-in-CompositeLit-2.result.now) c.part_of.ensures c.expressions.ensures))

pub expression_form-returns-in-LiteralValue : goal.expression_form-returns-in-LiteralValue
unfolding form_marks
expression_form-returns-in-LiteralValue t c =
    rw (c.in-LiteralValue.is, expression_form-LiteralValue, ← c.deref-in-LiteralValue.ensures.value)
    (all_at_spot c.expressions-in-LiteralValue.result c.args.walk.now c.expressions-in-LiteralValue.new.walk
    (spot_view c.part_of-in-LiteralValue.result) (part_of c.args.spot.site) (expressions_syntax c.deref-in-LiteralValue.result.now)
    c.part_of-in-LiteralValue.ensures c.expressions-in-LiteralValue.ensures)

pub expression_form-returns-in_ok-named_or-in-KeyValue : goal.expression_form-returns-in_ok-named_or-in-KeyValue
unfolding form_marks
expression_form-returns-in_ok-named_or-in-KeyValue t c =
    let site = c.args.spot.site in
    let marks = λ (e : Expr). expression_marks (part_of site) (expression_syntax e) in
    rw (c.in-KeyValue.is, expression_form-KeyValue, ← c.deref-in-KeyValue.ensures, ← c.deref-in-KeyValue-3.ensures)
    (then_adds _ _ _ _ _ (marks c.deref-in-KeyValue-3.result.now)
    (adds_same c.args.walk.now c.named_or.new.walk
    (named_or (option_map named_view c.as_bare.result) site as_key (marks c.deref-in-KeyValue-2.result.now))
    (named_or (as_bare (expression_syntax c.deref-in-KeyValue.result.now)) site as_key (marks c.deref-in-KeyValue.result.now))
    (λ i. named_or (c.as_bare.ensures i) site as_key (marks ((c.deref-in-KeyValue-2.ensures ∙ sym c.deref-in-KeyValue.ensures) i)))
    c.in_ok-named_or-in-KeyValue.ensures)
    c.part-in-KeyValue.ensures)

pub expression_form-returns-in-Paren : goal.expression_form-returns-in-Paren
unfolding form_marks
expression_form-returns-in-Paren t c =
    rw (c.in-Paren.is, expression_form-Paren, ← c.deref-in-Paren.ensures)
    c.part-in-Paren.ensures

pub expression_form-returns-in-Selector : goal.expression_form-returns-in-Selector
unfolding form_marks
expression_form-returns-in-Selector t c =
    rw (c.in-Selector.is, expression_form-Selector, ← c.deref-in-Selector.ensures)
    (named_adds c.named_or-in-Selector.result c.args.walk.now c.named_or-in-Selector.new.walk
    (option_map named_view c.select_from-named.result)
    (select_from (as_bare (expression_syntax c.deref-in-Selector.result.now)) (identifier_syntax c.in-Selector.member)) c.args.spot.site
    elsewhere (expression_marks (part_of c.args.spot.site) (expression_syntax c.deref-in-Selector-2.result.now))
    (expression_marks (part_of c.args.spot.site) (expression_syntax c.deref-in-Selector.result.now))
    (c.select_from-named.ensures ∙ ap (λ n. select_from n (identifier_syntax c.in-Selector.member)) c.as_bare-in-Selector.ensures)
    (ap (λ (e : Expr). expression_marks (part_of c.args.spot.site) (expression_syntax e)) (c.deref-in-Selector-2.ensures ∙ sym c.deref-in-Selector.ensures))
    c.named_or-in-Selector.ensures)

pub expression_form-returns-in_ok-part-in-Index : goal.expression_form-returns-in_ok-part-in-Index
unfolding form_marks
expression_form-returns-in_ok-part-in-Index t c =
    rw (c.in-Index.is, expression_form-Index, ← c.deref-in-Index.ensures, ← c.deref-in-Index-2.ensures)
    (then_adds _ _ _ _ _ _ c.in_ok-part-in-Index.ensures c.part-in-Index-2.ensures)

pub expression_form-returns-in_ok-part-in-Instance : goal.expression_form-returns-in_ok-part-in-Instance
unfolding form_marks
expression_form-returns-in_ok-part-in-Instance t c =
    rw (c.in-Instance.is, expression_form-Instance, ← c.deref-in-Instance.ensures, ← c.deref-in-Instance-2.ensures.value)
    (then_adds _ _ _ _ _ (expressions_marks (part_of c.args.spot.site) (expressions_syntax c.deref-in-Instance-2.result.now))
    c.in_ok-part-in-Instance.ensures
    (all_at_spot c.expressions-in-Instance.result c.part-in-Instance.new.walk c.expressions-in-Instance.new.walk
    (spot_view c.part_of-in-Instance.result) (part_of c.args.spot.site) (expressions_syntax c.deref-in-Instance-2.result.now)
    c.part_of-in-Instance.ensures c.expressions-in-Instance.ensures))

pub expression_form-returns-in_ok-optional-in-Slice-2 : goal.expression_form-returns-in_ok-optional-in-Slice-2
unfolding form_marks
expression_form-returns-in_ok-optional-in-Slice-2 t c =
    rw (
      c.in-Slice.is,
      expression_form-Slice,
      ← c.deref-in-Slice.ensures,
      ← low_bound_of c.deref-in-Slice-2.ensures,
      ← high_bound_of c.deref-in-Slice-3.ensures,
      ← most_bound_of c.deref-in-Slice-4.ensures,
    )
    (four_adds _ _ _ _ _ _ _ _ _ _ c.in_ok-part-in-Slice.ensures c.in_ok-optional-in-Slice.ensures c.in_ok-optional-in-Slice-2.ensures
    c.optional-in-Slice-2.ensures)

pub expression_form-returns-in_ok-part-in-TypeAssert : goal.expression_form-returns-in_ok-part-in-TypeAssert
unfolding form_marks
expression_form-returns-in_ok-part-in-TypeAssert t c =
    rw (c.in-TypeAssert.is, expression_form-TypeAssert, ← c.deref-in-TypeAssert.ensures, ← c.deref-in-TypeAssert-2.ensures)
    (then_adds _ _ _ _ _ _ c.in_ok-part-in-TypeAssert.ensures c.part-in-TypeAssert-2.ensures)

pub expression_form-returns-in_ok-callee_or-in-Call : goal.expression_form-returns-in_ok-callee_or-in-Call
unfolding form_marks
expression_form-returns-in_ok-callee_or-in-Call t c =
    let spot = spot_view c.args.spot in
    let f = c.in-Call.callee.value in
    let call = optional_call c.in_ok-call-in-Call.call in
    let kept = spot_view c.callee_spot.result in
    rw (c.in-Call.is, expression_form-Call, ← c.deref-in-Call-5.ensures.value)
    (call_adds c.field_called.result c.args.walk.now c.receiver_given.new.walk c.all_arguments.new.walk c.callee_or.new.walk
    c.field_called.new.walk spot kept (place_view c.arguments_place-place.result) call
    (call_of spot.place (expression_syntax f) (expressions_syntax c.deref-in-Call-5.result.now) c.in-Call.has_ellipsis)
    (expression_syntax f) (expressions_syntax c.deref-in-Call-5.result.now)
    (c.in_ok-call-in-Call.ensures ∙ c.call_of.ensures
    ∙ (λ i. call_of spot.place (expression_syntax (c.deref-in-Call.ensures i))
    (expressions_syntax ((c.deref-in-Call-2.ensures.value ∙ sym c.deref-in-Call-5.ensures.value) i)) c.in-Call.has_ellipsis))
    c.callee_spot.ensures
    (c.arguments_place-place.ensures
    ∙ ap (λ (x : Expr). arguments_place spot.place (expression_syntax x)) c.deref-in-Call-4.ensures)
    (adds_same _ _ _ _ (ap (λ (x : Expr). receiver_given spot.place spot.site (expression_syntax x)) c.deref-in-Call-3.ensures)
    c.in_ok-receiver_given-in-Call.ensures)
    c.in_ok-all_arguments-in-Call.ensures
    (adds_same _ _ _ _
    (ap (λ (x : Expr). callee_or call kept.site (expression_syntax x) (expression_marks kept (expression_syntax x)))
    c.deref-in-Call-6.ensures)
    c.in_ok-callee_or-in-Call.ensures)
    (same_adds _ _ _ _ _ (ap (λ (x : Expr). field_called spot.site (expression_syntax x)) c.deref-in-Call-7.ensures)
    c.field_called.ensures))

pub expression_form-returns-in-Star : goal.expression_form-returns-in-Star
unfolding form_marks
expression_form-returns-in-Star t c =
    rw (c.in-Star.is, expression_form-Star, ← c.deref-in-Star.ensures)
    c.part-in-Star.ensures

pub expression_form-returns-in-Unary : goal.expression_form-returns-in-Unary
unfolding form_marks
expression_form-returns-in-Unary t c =
    rw (c.in-Unary.is, expression_form-Unary, ← c.deref-in-Unary.ensures)
    c.unary.ensures

pub expression_form-returns-in_ok-part-in-Binary : goal.expression_form-returns-in_ok-part-in-Binary
unfolding form_marks
expression_form-returns-in_ok-part-in-Binary t c =
    rw (c.in-Binary.is, expression_form-Binary, ← c.deref-in-Binary.ensures, ← c.deref-in-Binary-2.ensures)
    (then_adds _ _ _ _ _ _ c.in_ok-part-in-Binary.ensures c.part-in-Binary-2.ensures)

pub expression_form-returns-in_ok-part-in-ArrayType : goal.expression_form-returns-in_ok-part-in-ArrayType
unfolding form_marks
expression_form-returns-in_ok-part-in-ArrayType t c =
    rw (c.in-ArrayType.is, expression_form-ArrayType, ← c.deref-in-ArrayType.ensures, ← c.deref-in-ArrayType-2.ensures)
    (then_adds _ _ _ _ _ _ c.in_ok-part-in-ArrayType.ensures c.part-in-ArrayType-2.ensures)

pub expression_form-returns-in-EllipsisArrayType : goal.expression_form-returns-in-EllipsisArrayType
unfolding form_marks
expression_form-returns-in-EllipsisArrayType t c =
    rw (c.in-EllipsisArrayType.is, expression_form-EllipsisArrayType, ← c.deref-in-EllipsisArrayType.ensures)
    c.part-in-EllipsisArrayType.ensures

pub expression_form-returns-in-SliceType : goal.expression_form-returns-in-SliceType
unfolding form_marks
expression_form-returns-in-SliceType t c =
    rw (c.in-SliceType.is, expression_form-SliceType, ← c.deref-in-SliceType.ensures)
    c.part-in-SliceType.ensures

pub expression_form-returns-in_ok-part-in-MapType : goal.expression_form-returns-in_ok-part-in-MapType
unfolding form_marks
expression_form-returns-in_ok-part-in-MapType t c =
    rw (c.in-MapType.is, expression_form-MapType, ← c.deref-in-MapType.ensures, ← c.deref-in-MapType-2.ensures)
    (then_adds _ _ _ _ _ _ c.in_ok-part-in-MapType.ensures c.part-in-MapType-2.ensures)

pub expression_form-returns-in-ChanType : goal.expression_form-returns-in-ChanType
unfolding form_marks
expression_form-returns-in-ChanType t c =
    rw (c.in-ChanType.is, expression_form-ChanType, ← c.deref-in-ChanType.ensures)
    c.part-in-ChanType.ensures

pub expression_form-returns-in-FuncType : goal.expression_form-returns-in-FuncType
unfolding form_marks
expression_form-returns-in-FuncType t c =
    rw (c.in-FuncType.is, expression_form-FuncType, ← c.deref-in-FuncType.ensures)
    c.signature.ensures

pub expression_form-returns-in-StructType : goal.expression_form-returns-in-StructType
unfolding form_marks
expression_form-returns-in-StructType t c =
    rw (c.in-StructType.is, expression_form-StructType, ← c.deref-in-StructType.ensures.value)
    c.fields.ensures

pub expression_form-returns-in-InterfaceType : goal.expression_form-returns-in-InterfaceType
unfolding form_marks
expression_form-returns-in-InterfaceType t c =
    rw (c.in-InterfaceType.is, expression_form-InterfaceType, ← c.deref-in-InterfaceType.ensures.value)
    c.fields-in-InterfaceType.ensures

pub statement_form-returns-in-Empty : goal.statement_form-returns-in-Empty
unfolding statement_form_marks
statement_form-returns-in-Empty t c = rw (c.in-Empty.is, statement_form-Empty) (adds_nothing _)

pub statement_form-returns-in-Decl : goal.statement_form-returns-in-Decl
unfolding statement_form_marks
statement_form-returns-in-Decl t c =
    rw (c.in-Decl.is, statement_form-Decl, ← c.deref.ensures.value)
    c.specs.ensures

pub statement_form-returns-in-Labeled : goal.statement_form-returns-in-Labeled
unfolding statement_form_marks
statement_form-returns-in-Labeled t c =
    rw (c.in-Labeled.is, statement_form-Labeled, ← c.deref-in-Labeled.ensures)
    c.statement.ensures

pub statement_form-returns-in-Expr : goal.statement_form-returns-in-Expr
unfolding statement_form_marks
statement_form-returns-in-Expr t c =
    rw (c.in-Expr.is, statement_form-Expr)
    (at_spot c.expression.result c.args.walk.now c.expression.new.walk (spot_view c.whole.result)
    (whole (place_in (standing_view c.args.standing) as_statement) c.args.at) (expression_syntax c.in-Expr.value)
    (c.whole.ensures ∙ ap (λ p. whole p c.args.at) c.place_in-place.ensures) c.expression.ensures)

pub statement_form-returns-in_ok-part-in-Send-2 : goal.statement_form-returns-in_ok-part-in-Send-2
unfolding statement_form_marks
statement_form-returns-in_ok-part-in-Send-2 t c =
    rw (c.in-Send.is, statement_form-Send, ← c.deref-in-Send.ensures, ← c.deref-in-Send-2.ensures)
    (three_adds _ _ _ _ _ _ _ _ c.in_ok-part-in-Send.ensures c.in_ok-part-in-Send-2.ensures
    (same_adds _ _ _ _ _
    (ap (λ (x : Expr). sent (standing_view c.args.standing) c.args.at (expression_syntax x))
    (c.deref-in-Send-3.ensures ∙ sym c.deref-in-Send-2.ensures))
    c.sent.ensures))

pub statement_form-returns-in-Increment : goal.statement_form-returns-in-Increment
unfolding statement_form_marks
statement_form-returns-in-Increment t c =
    rw (c.in-Increment.is, statement_form-Increment)
    c.overwritten.ensures

pub statement_form-returns-in-Decrement : goal.statement_form-returns-in-Decrement
unfolding statement_form_marks
statement_form-returns-in-Decrement t c =
    rw (c.in-Decrement.is, statement_form-Decrement)
    c.overwritten-in-Decrement.ensures

pub statement_form-returns-in_ok-rights_given-in-Assign : goal.statement_form-returns-in_ok-rights_given-in-Assign
unfolding statement_form_marks
statement_form-returns-in_ok-rights_given-in-Assign t c =
    rw (c.in-Assign.is, statement_form-Assign)
    (assignment_adds _ _ _ _ _ _ _ _ _ _ _ _ _ _ _
    (c.in_ok-row-in-Assign.ensures
    ∙ assigned_row (standing_view c.args.standing) c.args.at _ _ _ _ c.deref-in-Assign.ensures.value c.deref-in-Assign-2.ensures.value)
    c.deref-in-Assign-3.ensures.value c.deref-in-Assign-4.ensures.value c.deref-in-Assign-5.ensures.value
    c.deref-in-Assign-6.ensures.value c.value_spot.ensures c.in_ok-expressions-in-Assign.ensures
    c.in_ok-rights_given-in-Assign.ensures c.lefts.ensures)

pub statement_form-returns-in_ok-part-in-AssignOp : goal.statement_form-returns-in_ok-part-in-AssignOp
unfolding statement_form_marks
statement_form-returns-in_ok-part-in-AssignOp t c =
    rw (c.in-AssignOp.is, statement_form-AssignOp, ← c.deref-in-AssignOp.ensures, ← c.deref-in-AssignOp-2.ensures)
    (three_adds _ _ _ _ _ _ _ _ c.in_ok-exposed_or-in-AssignOp.ensures c.in_ok-part-in-AssignOp.ensures
    (same_adds _ _ _ _ _
    (ap (λ (x : Expr). field_written c.args.at None (expression_syntax x))
    (c.deref-in-AssignOp-3.ensures ∙ sym c.deref-in-AssignOp.ensures))
    c.field_written.ensures))

pub statement_form-returns-in_ok-expressions-in-Define : goal.statement_form-returns-in_ok-expressions-in-Define
unfolding statement_form_marks
statement_form-returns-in_ok-expressions-in-Define t c =
    rw (c.in-Define.is, statement_form-Define)
    (definition_adds _ _ _ _ _ _ _ _ _ _ _ _
    (c.in_ok-row-in-Define.ensures
    ∙ defined_row (standing_view c.args.standing) c.args.at _ _ _ _ c.deref-in-Define.ensures.value c.deref-in-Define-2.ensures.value)
    c.deref-in-Define-3.ensures.value c.deref-in-Define-4.ensures.value c.value_spot-in-Define.ensures c.in_ok-expressions-in-Define.ensures
    (kept_adds _ _ _ _ (left_names_kept _ _ _ _) c.left_names.ensures))

pub statement_form-returns-in-Go : goal.statement_form-returns-in-Go
unfolding statement_form_marks
statement_form-returns-in-Go t c =
    rw (c.in-Go.is, statement_form-Go)
    (at_spot c.expression-in-Go.result c.args.walk.now c.expression-in-Go.new.walk (spot_view c.whole-in-Go.result)
    (whole under_go c.args.at) (expression_syntax c.in-Go.call) c.whole-in-Go.ensures c.expression-in-Go.ensures)

pub statement_form-returns-in-Defer : goal.statement_form-returns-in-Defer
unfolding statement_form_marks
statement_form-returns-in-Defer t c =
    rw (c.in-Defer.is, statement_form-Defer)
    (at_spot c.expression-in-Defer.result c.args.walk.now c.expression-in-Defer.new.walk (spot_view c.whole-in-Defer.result)
    (whole deferred c.args.at) (expression_syntax c.in-Defer.call) c.whole-in-Defer.ensures c.expression-in-Defer.ensures)

pub statement_form-returns-in_ok-push-in-Return : goal.statement_form-returns-in_ok-push-in-Return
unfolding statement_form_marks
statement_form-returns-in_ok-push-in-Return t c =
    rw (c.in-Return.is, statement_form-Return)
    (return_adds _ _ _ _ _ _ _ c.deref-in-Return.ensures.value c.deref-in-Return-2.ensures.value c.in_ok-items-in-Return.ensures
    (adds_kept _ _ _ (alone_kept _ refl refl) c.in_ok-push-in-Return.ensures))

pub statement_form-returns-in-Break : goal.statement_form-returns-in-Break
unfolding statement_form_marks
statement_form-returns-in-Break t c = rw (c.in-Break.is, statement_form-Break) (adds_nothing _)

pub statement_form-returns-in-Continue : goal.statement_form-returns-in-Continue
unfolding statement_form_marks
statement_form-returns-in-Continue t c = rw (c.in-Continue.is, statement_form-Continue) (adds_nothing _)

pub statement_form-returns-in-Goto : goal.statement_form-returns-in-Goto
unfolding statement_form_marks
statement_form-returns-in-Goto t c = rw (c.in-Goto.is, statement_form-Goto) (adds_nothing _)

pub statement_form-returns-in-Fallthrough : goal.statement_form-returns-in-Fallthrough
unfolding statement_form_marks
statement_form-returns-in-Fallthrough t c = rw (c.in-Fallthrough.is, statement_form-Fallthrough) (adds_nothing _)

pub statement_form-returns-in-Block : goal.statement_form-returns-in-Block
unfolding statement_form_marks
statement_form-returns-in-Block t c =
    rw (c.in-Block.is, statement_form-Block, block_statements-out, ← c.deref-in-Block.ensures.value)
    c.statements.ensures

pub statement_form-returns-in_ok-found_nil-in-If-2 : goal.statement_form-returns-in_ok-found_nil-in-If-2
unfolding statement_form_marks
statement_form-returns-in_ok-found_nil-in-If-2 t c =
    let e = c.in-If.condition.value in
    let span = (out-Block c.in-If.body).span in
    let row = first_row (optional_statement_syntax c.in-If.init) in
    rw (c.in-If.is, statement_form-If, block_statements-out, block_braces-out, ← c.deref-in-If-4.ensures.value)
    (branch_adds c.optional_statement-in-If.result _ _ _ _ _ _ _ _
    (optional_statement_marks ordinary (optional_statement_syntax c.in-If.init))
    (expression_marks (part_of c.args.at) (expression_syntax e))
    (guard_marks row (expression_syntax e) span)
    (nil_marks span.start (nil_where true (expression_syntax e)))
    (statements_marks (statements_syntax c.deref-in-If-4.result.now))
    (nil_marks (span.end - 1) (nil_where false (expression_syntax e)))
    (optional_statement_marks ordinary (optional_statement_syntax c.in-If.otherwise))
    c.in_ok-optional_statement-in-If.ensures
    (adds_same _ _ _ _ (ap (λ (x : Expr). expression_marks (part_of c.args.at) (expression_syntax x)) c.deref-in-If.ensures)
    c.in_ok-part-in-If.ensures)
    (adds_same _ _ _ _ (ap (λ (x : Expr). guard_marks row (expression_syntax x) span) c.deref-in-If-2.ensures)
    c.in_ok-first_guard-in-If.ensures)
    (adds_same _ _ _ _ (ap (λ (x : Expr). nil_marks span.start (nil_where true (expression_syntax x))) c.deref-in-If-3.ensures)
    c.in_ok-found_nil-in-If.ensures)
    c.in_ok-statements-in-If.ensures
    (adds_same _ _ _ _
    (λ i. nil_marks (c.saturating_sub.ensures i) (nil_where false (expression_syntax (c.deref-in-If-5.ensures i))))
    c.in_ok-found_nil-in-If-2.ensures)
    c.optional_statement-in-If.ensures)

pub statement_form-returns-in_ok-optional_statement-in-For-2 : goal.statement_form-returns-in_ok-optional_statement-in-For-2
unfolding statement_form_marks
statement_form-returns-in_ok-optional_statement-in-For-2 t c =
    rw (c.in-For.is, statement_form-For, block_statements-out, ← c.deref-in-For.ensures.value)
    (four_adds _ _ _ _ _ _ _ _ _ _ c.in_ok-optional_statement-in-For.ensures c.in_ok-optional-in-For.ensures
    c.in_ok-optional_statement-in-For-2.ensures c.statements-in-For.ensures)

pub statement_form-returns-in_ok-part-in-RangeAssign : goal.statement_form-returns-in_ok-part-in-RangeAssign
unfolding statement_form_marks
statement_form-returns-in_ok-part-in-RangeAssign t c =
    rw (
      c.in-RangeAssign.is,
      statement_form-RangeAssign,
      block_statements-out,
      ← c.deref-in-RangeAssign.ensures.value,
      ← c.deref-in-RangeAssign-2.ensures,
      ← c.deref-in-RangeAssign-3.ensures.value,
    )
    (three_adds _ _ _ _ _ _ _ _ c.in_ok-ranged-in-RangeAssign.ensures
    c.in_ok-part-in-RangeAssign.ensures c.statements-in-RangeAssign.ensures)

pub statement_form-returns-in_ok-declared_elsewhere-in-RangeDefine : goal.statement_form-returns-in_ok-declared_elsewhere-in-RangeDefine
unfolding statement_form_marks
statement_form-returns-in_ok-declared_elsewhere-in-RangeDefine t c =
    rw (
      c.in-RangeDefine.is,
      statement_form-RangeDefine,
      block_statements-out,
      ← c.deref-in-RangeDefine.ensures,
      ← c.deref-in-RangeDefine-2.ensures.value,
      ← c.deref-in-RangeDefine-3.ensures.value,
    )
    (three_adds _ _ _ _ _ _ _ _ c.in_ok-part-in-RangeDefine.ensures
    (adds_kept _ _ _ (elsewhere_kept _ _) c.in_ok-declared_elsewhere-in-RangeDefine.ensures) c.statements-in-RangeDefine.ensures)

pub statement_form-returns-in_ok-optional-in-Switch : goal.statement_form-returns-in_ok-optional-in-Switch
unfolding statement_form_marks
statement_form-returns-in_ok-optional-in-Switch t c =
    rw (c.in-Switch.is, statement_form-Switch, ← c.deref-in-Switch.ensures.value)
    (three_adds _ _ _ _ _ _ _ _ c.in_ok-optional_statement-in-Switch.ensures c.in_ok-optional-in-Switch.ensures c.cases.ensures)

pub statement_form-returns-in_ok-part-in-TypeSwitch : goal.statement_form-returns-in_ok-part-in-TypeSwitch
unfolding statement_form_marks
statement_form-returns-in_ok-part-in-TypeSwitch t c =
    rw (
      c.in-TypeSwitch.is,
      statement_form-TypeSwitch,
      ← c.deref-in-TypeSwitch.ensures,
      ← c.deref-in-TypeSwitch-2.ensures.value,
      ← guard_same _ _ c.as_ref.ensures.value,
    )
    (three_adds _ _ _ _ _ _ _ _ c.in_ok-optional_statement-in-TypeSwitch.ensures c.in_ok-part-in-TypeSwitch.ensures c.cases-in-TypeSwitch.ensures)

pub statement_form-returns-in-Select : goal.statement_form-returns-in-Select
unfolding statement_form_marks
statement_form-returns-in-Select t c =
    rw (c.in-Select.is, statement_form-Select, ← c.deref-in-Select.ensures.value)
    c.communications.ensures

pub expression-returns : goal.expression-returns
unfolding expression_marks
expression-returns t c = c.expression_form.ensures

pub statement-returns : goal.statement-returns
unfolding statement_marks
statement-returns t c = c.statement_form.ensures

pub part-returns : goal.part-returns
part-returns t c =
    rw (← c.part_of.ensures) c.expression.ensures

pub named_or-returns : goal.named_or-returns
named_or-returns t c =
    named_at_spot c.named_at.result c.args.walk.now c.named_at.new.walk (option_map named_view c.args.named)
    (role_view c.args.role) (spot_view c.part_of.result) (part_of c.args.site) (expression_syntax c.args.other.now)
    c.part_of.ensures c.named_at.ensures

pub named_at-returns-in-Some : goal.named_at-returns-in-Some
named_at-returns-in-Some t c =
    rw c.in-Some.is (kept_adds _ _ _ _ (mention_kept _ c.requires _ _) c.mention.ensures)

pub named_at-returns-in-None : goal.named_at-returns-in-None
named_at-returns-in-None t c =
    rw c.in-None.is c.expression.ensures

pub function_literal-returns : goal.function_literal-returns
function_literal-returns t c =
    rw (literal_marks, ← c.deref-list.ensures.value)
    (body_adds c.behind_literal.result c.args.walk.now _ _ _ _ c.behind_literal.new.walk _ _ _ _
    (opens_kept _ _ c.in_ok-body.body _ c.in_ok-body.ensures (adds_kept _ _ _ (alone_kept _ refl refl) c.in_ok-push.ensures))
    c.in_ok-signature.ensures c.in_ok-statements.ensures
    (adds_kept _ c.push-2.new.self _ (alone_kept _ refl refl) c.in_ok-push-2.ensures) c.behind_literal.ensures)

pub overwritten-returns : goal.overwritten-returns
overwritten-returns t c = then_adds _ _ _ _ _ _ c.in_ok-exposed_or.ensures c.field_written.ensures

pub callee_or-returns-in-Some : goal.callee_or-returns-in-Some
callee_or-returns-in-Some t c =
    rw c.in-Some.is (kept_adds _ _ _ _ (alone_kept _ refl refl) c.mention.ensures)

pub callee_or-returns-in-None : goal.callee_or-returns-in-None
callee_or-returns-in-None t c =
    rw c.in-None.is (named_adds _ _ _ _ _ _ _ _ _ c.as_bracketed-named.ensures refl c.named_at.ensures)

pub optional-returns-in-Some : goal.optional-returns-in-Some
unfolding optional_marks
optional-returns-in-Some t c = rw (c.in-Some.is, ← c.deref.ensures) c.part.ensures

pub optional-returns-in-None : goal.optional-returns-in-None
unfolding optional_marks
optional-returns-in-None t c = rw c.in-None.is (adds_nothing _)

pub names_type-returns-in-Some : goal.names_type-returns-in-Some
unfolding names_type_marks
names_type-returns-in-Some t c =
    rw (c.in-Some.is, ← c.deref.ensures)
    (named_adds c.named_or.result c.args.walk.now c.named_or.new.walk (option_map named_view c.as_named.result)
    (as_named (expression_syntax c.deref.result.now)) c.args.site (names_type (row_view c.args.row.now))
    (expression_marks (part_of c.args.site) (expression_syntax c.deref-in-Some.result.now))
    (expression_marks (part_of c.args.site) (expression_syntax c.deref.result.now)) c.as_named.ensures
    (ap (λ (e : Expr). expression_marks (part_of c.args.site) (expression_syntax e)) (c.deref-in-Some.ensures ∙ sym c.deref.ensures))
    c.named_or.ensures)

pub names_type-returns-in-None : goal.names_type-returns-in-None
unfolding names_type_marks
names_type-returns-in-None t c =
    rw c.in-None.is (adds_nothing _)

pub optional_statement-returns-in-Some : goal.optional_statement-returns-in-Some
unfolding optional_statement_marks
optional_statement-returns-in-Some t c = rw (c.in-Some.is, ← c.deref.ensures) c.statement.ensures

pub optional_statement-returns-in-None : goal.optional_statement-returns-in-None
unfolding optional_statement_marks
optional_statement-returns-in-None t c = rw c.in-None.is (adds_nothing _)

pub signature-returns : goal.signature-returns
unfolding signature_marks
signature-returns t c =
    rw (← c.deref.ensures.value, ← c.deref-2.ensures.value)
    (then_adds _ _ _ _ _ _ c.in_ok-parameters.ensures c.parameters-2.ensures)

pub parameter-returns-in-Named : goal.parameter-returns-in-Named
unfolding parameters_marks
parameter-returns-in-Named t c =
    rw (c.in-Named.is, parameter_and-Named, ← c.is_plain_type.ensures) (alone_adds _ _ _ _ c.parameter_type.ensures)

pub parameter-returns-in-Unnamed : goal.parameter-returns-in-Unnamed
unfolding parameters_marks
parameter-returns-in-Unnamed t c =
    rw (c.in-Unnamed.is, parameter_and-Unnamed, ← c.is_plain_type-in-Unnamed.ensures) (alone_adds _ _ _ _ c.parameter_type-in-Unnamed.ensures)

pub parameter-returns-in-NameAlone : goal.parameter-returns-in-NameAlone
unfolding parameters_marks
parameter-returns-in-NameAlone t c = rw (c.in-NameAlone.is, parameter_and-NameAlone) (adds_nothing _)

pub field-returns-in-Named : goal.field-returns-in-Named
unfolding fields_marks
field-returns-in-Named t c = rw (c.in-Named.is, field_and-Named) (alone_adds _ _ _ _ c.part.ensures)

pub field-returns-in-Embedded : goal.field-returns-in-Embedded
unfolding fields_marks
field-returns-in-Embedded t c = rw (c.in-Embedded.is, field_and-Embedded) (same_adds _ _ _ _ _ (λ i. mention c.args.site elsewhere (c.embedded.ensures i) ∷ [])
    (kept_adds _ _ _ _ (alone_kept _ refl refl) c.mention.ensures))

pub field-returns-in-Element : goal.field-returns-in-Element
unfolding fields_marks
field-returns-in-Element t c = rw (c.in-Element.is, field_and-Element) (alone_adds _ _ _ _ c.part-in-Element.ensures)

pub field-returns-in-Method : goal.field-returns-in-Method
unfolding fields_marks
field-returns-in-Method t c = rw (c.in-Method.is, field_and-Method) (alone_adds _ _ _ _ c.signature.ensures)

pub spec-returns-in_ok-expressions-in-Value : goal.spec-returns-in_ok-expressions-in-Value
unfolding specs_marks
spec-returns-in_ok-expressions-in-Value t c =
    rw (c.in-Value.is, spec_and-Value)
    (spec_adds _ c.args.walk.now _ _ _ _ (optional_expression_syntax c.in-Value.kind) _ _ _ _ _ _ _
    (c.in_ok-row-in-Value.ensures ∙ declared_same c.args.keyword c.args.at _ _ _ _ _ c.deref.ensures.value c.deref-in-Value.ensures.value)
    c.deref-in-Value-2.ensures.value c.deref-in-Value-3.ensures.value c.value_spot.ensures c.in_ok-names_type-in-Value.ensures c.in_ok-expressions-in-Value.ensures
    (kept_adds _ _ _ _ (left_names_kept _ _ _ _) c.left_names.ensures))

pub spec-returns-in_ok-parameters-in-Type : goal.spec-returns-in_ok-parameters-in-Type
unfolding specs_marks
spec-returns-in_ok-parameters-in-Type t c =
    rw (c.in-Type.is, spec_and-Type, ← c.deref-in-Type-2.ensures.value, ← c.deref-in-Type-3.ensures)
    (four_adds _ _ _ _ _ _ _ _ _ _ (adds_kept _ c.declare_elsewhere.new.marks _ (alone_kept _ refl refl) c.in_ok-declare_elsewhere-in-Type.ensures)
    (adds_same _ _ _ _
    (ap (λ l. declared_elsewhere c.in-Type.span.start (parameters_named (parameters_syntax l)))
    (c.deref-in-Type.ensures.value ∙ sym c.deref-in-Type-2.ensures.value))
    (adds_kept _ c.declared_parameters.new.marks _ (elsewhere_kept _ _) c.in_ok-declared_parameters-in-Type.ensures))
    c.in_ok-parameters-in-Type.ensures (alone_adds _ _ _ _ c.part.ensures))

pub expressions-loop-item-preserved : goal.expressions-loop-item-preserved
unfolding expressions_marks
expressions-loop-item-preserved t c =
    let items = drop_item c.args.list.now c.loop-item.item-index c.item-item.result c.loop-item-test.true c.item-item.is in
    adds_next _ _ _ _ _ _ _ c.loop-item.invariant (ap (λ l. expressions_marks (spot_view c.args.spot) (expressions_syntax l)) items) c.in_ok-expression.ensures

pub expressions-returns : goal.expressions-returns
unfolding expressions_marks
expressions-returns t c =
    let nothing = drop_past c.args.list.now c.loop-item.item-index c.loop-item-test.false in
    adds_all c.args.walk.now _ _ (expressions_marks (spot_view c.args.spot) (expressions_syntax c.args.list.now)) c.loop-item.invariant
    (ap (λ l. expressions_marks (spot_view c.args.spot) (expressions_syntax l)) nothing)

pub statements-loop-index-preserved : goal.statements-loop-index-preserved
statements-loop-index-preserved t c =
    let item = c.index-list-index.result in
    let items = drop_item c.args.list.now c.loop-index.index item c.loop-index-test.true c.index-list-index.is in
    let rest = statements_syntax (drop (c.loop-index.index + 1) c.args.list.now) in
    adds_next _ _ _ _ (statement_marks ordinary (statement_syntax item) ++ behind_row (row_in (statement_syntax item)) rest)
    (statements_marks rest) _ c.loop-index.invariant
    (ap (λ l. statements_marks (statements_syntax l)) items ∙ statement_first (statement_syntax item) rest)
    (adds_then _ _ _ _ _ c.in_ok-statement.ensures c.in_ok-behind_row.ensures)

pub statements-returns : goal.statements-returns
unfolding statements_marks
statements-returns t c =
    let nothing = drop_past c.args.list.now c.loop-index.index c.loop-index-test.false in
    adds_all c.args.walk.now _ _ (statements_marks (statements_syntax c.args.list.now)) c.loop-index.invariant
    (ap (λ l. statements_marks (statements_syntax l)) nothing)

pub parameters-loop-item-preserved : goal.parameters-loop-item-preserved
unfolding parameters_marks
parameters-loop-item-preserved t c =
    let items = drop_item c.args.list.now c.loop-item.item-index c.item-item.result c.loop-item-test.true c.item-item.is in
    adds_next _ _ _ _ _ _ _ c.loop-item.invariant (ap (λ l. parameters_marks c.args.are_parameters c.args.site (parameters_syntax l)) items ∙ parameters_more _ _ _ _) c.in_ok-parameter.ensures

pub parameters-returns : goal.parameters-returns
unfolding parameters_marks
parameters-returns t c =
    let nothing = drop_past c.args.list.now c.loop-item.item-index c.loop-item-test.false in
    adds_all c.args.walk.now _ _ (parameters_marks c.args.are_parameters c.args.site (parameters_syntax c.args.list.now)) c.loop-item.invariant
    (ap (λ l. parameters_marks c.args.are_parameters c.args.site (parameters_syntax l)) nothing)

pub fields-loop-item-preserved : goal.fields-loop-item-preserved
unfolding fields_marks
fields-loop-item-preserved t c =
    let items = drop_item c.args.list.now c.loop-item.item-index c.item-item.result c.loop-item-test.true c.item-item.is in
    adds_next _ _ _ _ _ _ _ c.loop-item.invariant (ap (λ l. fields_marks c.args.site (fields_syntax l)) items ∙ fields_more _ _ _) c.in_ok-field.ensures

pub fields-returns : goal.fields-returns
unfolding fields_marks
fields-returns t c =
    let nothing = drop_past c.args.list.now c.loop-item.item-index c.loop-item-test.false in
    adds_all c.args.walk.now _ _ (fields_marks c.args.site (fields_syntax c.args.list.now)) c.loop-item.invariant
    (ap (λ l. fields_marks c.args.site (fields_syntax l)) nothing)

pub specs-loop-item-preserved : goal.specs-loop-item-preserved
unfolding specs_marks
specs-loop-item-preserved t c =
    let items = drop_item c.args.list.now c.loop-item.item-index c.item-item.result c.loop-item-test.true c.item-item.is in
    adds_next _ _ _ _ _ _ _ c.loop-item.invariant (ap (λ l. specs_marks c.args.keyword c.args.at (specs_syntax l)) items ∙ specs_more _ _ _ _)
    c.in_ok-spec.ensures

pub specs-returns : goal.specs-returns
unfolding specs_marks
specs-returns t c =
    let nothing = drop_past c.args.list.now c.loop-item.item-index c.loop-item-test.false in
    adds_all c.args.walk.now _ _ (specs_marks c.args.keyword c.args.at (specs_syntax c.args.list.now)) c.loop-item.invariant
    (ap (λ l. specs_marks c.args.keyword c.args.at (specs_syntax l)) nothing)

pub cases-loop-clause-preserved : goal.cases-loop-clause-preserved
cases-loop-clause-preserved t c =
    let guard = option_map (λ (n : Bor Identifier). identifier_syntax n.now) c.args.guard in
    let items = drop_item c.args.clauses.now c.loop-clause.clause-index c.clause-item.result c.loop-clause-test.true c.clause-item.is in
    adds_next _ _ _ _ _ _ _ c.loop-clause.invariant (ap (λ l. cases_marks c.args.at guard (cases_syntax l)) items ∙ cases_more c.args.at guard c.clause-item.result _)
    (adds_case c.args.at guard c.clause-item.result _ _ _ _ _ _ _
    (adds_kept _ _ _ (guard_kept c.args.at guard (out-CaseClause c.clause-item.result).span) c.in_ok-guard_in_clause.ensures)
    c.in_ok-guard_renewed.ensures c.deref.ensures.value
    (adds_at_spot _ _ _ _ _ c.part_of.ensures c.in_ok-expressions.ensures) c.deref-in-loop-clause.ensures.value c.in_ok-statements.ensures)

pub cases-returns : goal.cases-returns
unfolding cases_marks
cases-returns t c =
    let guard = option_map (λ (n : Bor Identifier). identifier_syntax n.now) c.args.guard in
    let nothing = drop_past c.args.clauses.now c.loop-clause.clause-index c.loop-clause-test.false in
    adds_all c.args.walk.now _ _ (cases_marks c.args.at guard (cases_syntax c.args.clauses.now)) c.loop-clause.invariant
    (ap (λ l. cases_marks c.args.at guard (cases_syntax l)) nothing)

pub communications-loop-clause-preserved : goal.communications-loop-clause-preserved
communications-loop-clause-preserved t c =
    let items = drop_item c.args.clauses.now c.loop-clause.clause-index c.clause-item.result c.loop-clause-test.true c.clause-item.is in
    adds_next _ _ _ _ _ _ _ c.loop-clause.invariant (ap (λ l. communications_marks (communications_syntax l)) items ∙ communications_more c.clause-item.result _)
    (adds_communication c.clause-item.result _ _ _ _ _ c.in_ok-optional_statement.ensures c.in_ok-communication_given.ensures
    c.deref.ensures.value c.in_ok-statements.ensures)

pub communications-returns : goal.communications-returns
unfolding communications_marks
communications-returns t c =
    let nothing = drop_past c.args.clauses.now c.loop-clause.clause-index c.loop-clause-test.false in
    adds_all c.args.walk.now _ _ (communications_marks (communications_syntax c.args.clauses.now)) c.loop-clause.invariant
    (ap (λ l. communications_marks (communications_syntax l)) nothing)

pub all_arguments-loop-index-preserved : goal.all_arguments-loop-index-preserved
all_arguments-loop-index-preserved t c =
    let item = c.index-list-index.result in
    let items = drop_item c.args.list.now c.loop-index.index item c.loop-index-test.true c.index-list-index.is in
    let e = expression_syntax item in
    let rest = expressions_syntax (drop (c.loop-index.index + 1) c.args.list.now) in
    let place = place_view c.args.place in
    let call = optional_call c.args.call in
    let index = c.loop-index.index in
    let last = c.is_last.result in
    adds_next _ _ _ _
    (argument_at call c.args.site index last e (expression_marks (argument_spot place call c.args.site) e)
    ++ given_to c.args.site (argument_taker place call) e)
    (arguments_marks place call c.args.site (index + 1) rest) _ c.loop-index.invariant
    (ap (λ l. arguments_marks place call c.args.site index (expressions_syntax l)) items
    ∙ argument_first place call c.args.site index last e rest c.is_last.ensures)
    (adds_then _ _ _ _ _
    (adds_same _ _ _ _ (ap (λ (s : Spot). argument_at call s.site index last e (expression_marks s e)) c.argument_spot-spot.ensures)
    c.in_ok-argument.ensures)
    c.in_ok-argument_given.ensures)

pub all_arguments-returns : goal.all_arguments-returns
unfolding arguments_marks
all_arguments-returns t c =
    let nothing = drop_past c.args.list.now c.loop-index.index c.loop-index-test.false in
    let place = place_view c.args.place in
    let call = optional_call c.args.call in
    adds_all c.args.walk.now _ _ (arguments_marks place call c.args.site 0 (expressions_syntax c.args.list.now)) c.loop-index.invariant
    (ap (λ l. arguments_marks place call c.args.site c.loop-index.index (expressions_syntax l)) nothing)

pub items-loop-index-preserved : goal.items-loop-index-preserved
items-loop-index-preserved t c =
    let e = c.index-list-index.result in
    let items = drop_item c.args.list.now c.loop-index.index e c.loop-index-test.true c.index-list-index.is in
    let rest = expressions_syntax (drop (c.loop-index.index + 1) c.args.list.now) in
    adds_next _ _ _ _ (expression_marks (whole (return_item c.loop-index.index) c.args.site) (expression_syntax e))
    (items_marks c.args.site (c.loop-index.index + 1) rest) _ c.loop-index.invariant
    (ap (λ l. items_marks c.args.site c.loop-index.index (expressions_syntax l)) items
    ∙ item_first c.args.site c.loop-index.index (expression_syntax e) rest)
    (adds_same c.loop-index.walk c.expression.new.walk (expression_marks (spot_view c.whole.result) (expression_syntax e))
    (expression_marks (whole (return_item c.loop-index.index) c.args.site) (expression_syntax e))
    (ap (λ s. expression_marks s (expression_syntax e)) c.whole.ensures) c.in_ok-expression.ensures)

pub items-returns : goal.items-returns
unfolding items_marks
items-returns t c =
    let nothing = drop_past c.args.list.now c.loop-index.index c.loop-index-test.false in
    adds_all c.args.walk.now _ _ (items_marks c.args.site 0 (expressions_syntax c.args.list.now)) c.loop-index.invariant
    (ap (λ l. items_marks c.args.site c.loop-index.index (expressions_syntax l)) nothing)

pub lefts-loop-index-preserved : goal.lefts-loop-index-preserved
lefts-loop-index-preserved t c =
    let e = c.index-list-index.result in
    let items = drop_item c.args.list.now c.loop-index.index e c.loop-index-test.true c.index-list-index.is in
    let rest = expressions_syntax (drop (c.loop-index.index + 1) c.args.list.now) in
    let row = row_view c.args.row.now in
    adds_next _ _ _ _
    (named_or (as_bare (expression_syntax e)) c.args.site (left c.loop-index.index row)
    (exposed_or c.args.site (expression_syntax e) (expression_marks (part_of c.args.site) (expression_syntax e)))
    ++ field_written c.args.site (Some (assigned_at c.loop-index.index row)) (expression_syntax e))
    (lefts_marks row c.args.site (c.loop-index.index + 1) rest) _ c.loop-index.invariant
    (ap (λ l. lefts_marks row c.args.site c.loop-index.index (expressions_syntax l)) items
    ∙ left_first row c.args.site c.loop-index.index (expression_syntax e) rest)
    (adds_then _ _ _ _ _ c.in_ok-left_side.ensures c.in_ok-field_written.ensures)

pub lefts-returns : goal.lefts-returns
unfolding lefts_marks
lefts-returns t c =
    let nothing = drop_past c.args.list.now c.loop-index.index c.loop-index-test.false in
    adds_all c.args.walk.now _ _ (lefts_marks (row_view c.args.row.now) c.args.site 0 (expressions_syntax c.args.list.now)) c.loop-index.invariant
    (ap (λ l. lefts_marks (row_view c.args.row.now) c.args.site c.loop-index.index (expressions_syntax l)) nothing)

pub ranged-loop-item-preserved : goal.ranged-loop-item-preserved
ranged-loop-item-preserved t c =
    let e = c.item-item.result in
    let items = drop_item c.args.list.now c.loop-item.item-index e c.loop-item-test.true c.item-item.is in
    let rest = expressions_syntax (drop (c.loop-item.item-index + 1) c.args.list.now) in
    adds_next _ _ _ _
    (exposed_or c.args.site (expression_syntax e) (expression_marks (part_of c.args.site) (expression_syntax e))
    ++ field_written c.args.site None (expression_syntax e))
    (ranged_marks c.args.site rest) _ c.loop-item.invariant
    (ap (λ l. ranged_marks c.args.site (expressions_syntax l)) items ∙ ranged_first c.args.site (expression_syntax e) rest)
    c.in_ok-overwritten.ensures

pub ranged-returns : goal.ranged-returns
unfolding ranged_marks
ranged-returns t c =
    let nothing = drop_past c.args.list.now c.loop-item.item-index c.loop-item-test.false in
    adds_all c.args.walk.now _ _ (ranged_marks c.args.site (expressions_syntax c.args.list.now)) c.loop-item.invariant
    (ap (λ l. ranged_marks c.args.site (expressions_syntax l)) nothing)

pub left_side-returns-in-Some : goal.left_side-returns-in-Some
left_side-returns-in-Some t c =
    rw (← c.as_bare.ensures, c.in-Some.is) (kept_adds _ _ _ _ (mention_kept _ c.requires _ _) c.mention.ensures)

pub argument-returns-in-None : goal.argument-returns-in-None
argument-returns-in-None t c = rw c.in-None.is c.expression-in-None.ensures

pub argument_of-returns-in-Unary : goal.argument_of-returns-in-Unary
argument_of-returns-in-Unary t c =
    let marks = expression_marks (spot_view c.args.spot) (expression_syntax c.args.argument.now) in
    same_adds c.named_at.result c.args.walk.now c.named_at.new.walk
    (named_or (option_map named_view c.addressed.result) c.args.spot.site (argument c.args.index true (call_view c.args.call.now)) marks)
    (argument_or (call_view c.args.call.now) c.args.spot.site c.args.index (expression_syntax c.args.argument.now) marks)
    (operator_argument c.args.argument.now.kind c.in-Unary.operator c.in-Unary.operand c.args.argument.now.span (call_view c.args.call.now)
    c.args.spot.site c.args.index (option_map named_view c.addressed.result) marks c.in-Unary.is
    (c.addressed.ensures ∙ ap (λ (e : Expr). addressed c.in-Unary.operator (expression_syntax e)) c.deref.ensures))
    c.named_at.ensures

pub argument_of-returns-in_default : goal.argument_of-returns-in_default
argument_of-returns-in_default t c =
    let marks = expression_marks (spot_view c.args.spot) (expression_syntax c.args.argument.now) in
    same_adds c.named_at-in_default.result c.args.walk.now c.named_at-in_default.new.walk
    (named_or (option_map named_view c.as_named.result) c.args.spot.site (argument c.args.index false (call_view c.args.call.now)) marks)
    (argument_or (call_view c.args.call.now) c.args.spot.site c.args.index (expression_syntax c.args.argument.now) marks)
    (ap (λ n. named_or n c.args.spot.site (argument c.args.index false (call_view c.args.call.now)) marks) c.as_named.ensures
    ∙ no_operator c.args.argument.now.kind c.args.argument.now.span (call_view c.args.call.now) c.args.spot.site c.args.index marks c.in_default.not-Unary)
    c.named_at-in_default.ensures
