use Rattle.std.proofs.Common.{ap, ◌∙◌}
use Rattle.tree.proofs.Depths.{drop_item, drop_past}
use Rattle.tree.proofs.Views.{statement_form-Empty, statement_form-Decl, statement_form-Labeled, statement_form-Expr, statement_form-Send, statement_form-Increment, statement_form-Decrement, statement_form-Assign, statement_form-AssignOp, statement_form-Define, statement_form-Go, statement_form-Defer, statement_form-Return, statement_form-Break, statement_form-Continue, statement_form-Goto, statement_form-Fallthrough, statement_form-Block, statement_form-If, statement_form-For, statement_form-RangeAssign, statement_form-RangeDefine, statement_form-Switch, statement_form-TypeSwitch, statement_form-Select, block_statements-out}
use Rattle.tree.specs.View.{statements_syntax, cases_syntax, communications_syntax}
use Rattle.reasons.specs.Branches.{statement_branches, form_branches, branches_of, optional_branches, case_branches, communication_branches}
use Rattle.reasons.proofs.AddedBranches.{adds_nothing, then_adds, three_adds, four_adds, adds_next, adds_all, in_case, cases_more, in_communication, communications_more, braces_out}
use Rattle.reasons.proofs.branches.+branches.Goals as goal

pub add_statement-returns : goal.add_statement-returns
unfolding statement_branches
add_statement-returns t c =
    c.add_form.ensures

pub add_form-returns-in-Empty : goal.add_form-returns-in-Empty
unfolding form_branches
add_form-returns-in-Empty t c =
    rw (c.in-Empty.is, statement_form-Empty) (adds_nothing _)

pub add_form-returns-in-Decl : goal.add_form-returns-in-Decl
unfolding form_branches
add_form-returns-in-Decl t c =
    rw (c.in-Decl.is, statement_form-Decl) (adds_nothing _)

pub add_form-returns-in-Labeled : goal.add_form-returns-in-Labeled
unfolding form_branches
add_form-returns-in-Labeled t c =
    rw (c.in-Labeled.is, statement_form-Labeled, ← c.deref.ensures) c.add_statement.ensures

pub add_form-returns-in-Expr : goal.add_form-returns-in-Expr
unfolding form_branches
add_form-returns-in-Expr t c =
    rw (c.in-Expr.is, statement_form-Expr) (adds_nothing _)

pub add_form-returns-in-Send : goal.add_form-returns-in-Send
unfolding form_branches
add_form-returns-in-Send t c =
    rw (c.in-Send.is, statement_form-Send) (adds_nothing _)

pub add_form-returns-in-Increment : goal.add_form-returns-in-Increment
unfolding form_branches
add_form-returns-in-Increment t c =
    rw (c.in-Increment.is, statement_form-Increment) (adds_nothing _)

pub add_form-returns-in-Decrement : goal.add_form-returns-in-Decrement
unfolding form_branches
add_form-returns-in-Decrement t c =
    rw (c.in-Decrement.is, statement_form-Decrement) (adds_nothing _)

pub add_form-returns-in-Assign : goal.add_form-returns-in-Assign
unfolding form_branches
add_form-returns-in-Assign t c =
    rw (c.in-Assign.is, statement_form-Assign) (adds_nothing _)

pub add_form-returns-in-AssignOp : goal.add_form-returns-in-AssignOp
unfolding form_branches
add_form-returns-in-AssignOp t c =
    rw (c.in-AssignOp.is, statement_form-AssignOp) (adds_nothing _)

pub add_form-returns-in-Define : goal.add_form-returns-in-Define
unfolding form_branches
add_form-returns-in-Define t c =
    rw (c.in-Define.is, statement_form-Define) (adds_nothing _)

pub add_form-returns-in-Go : goal.add_form-returns-in-Go
unfolding form_branches
add_form-returns-in-Go t c =
    rw (c.in-Go.is, statement_form-Go) (adds_nothing _)

pub add_form-returns-in-Defer : goal.add_form-returns-in-Defer
unfolding form_branches
add_form-returns-in-Defer t c =
    rw (c.in-Defer.is, statement_form-Defer) (adds_nothing _)

pub add_form-returns-in-Return : goal.add_form-returns-in-Return
unfolding form_branches
add_form-returns-in-Return t c =
    rw (c.in-Return.is, statement_form-Return) (adds_nothing _)

pub add_form-returns-in-Break : goal.add_form-returns-in-Break
unfolding form_branches
add_form-returns-in-Break t c =
    rw (c.in-Break.is, statement_form-Break) (adds_nothing _)

pub add_form-returns-in-Continue : goal.add_form-returns-in-Continue
unfolding form_branches
add_form-returns-in-Continue t c =
    rw (c.in-Continue.is, statement_form-Continue) (adds_nothing _)

pub add_form-returns-in-Goto : goal.add_form-returns-in-Goto
unfolding form_branches
add_form-returns-in-Goto t c =
    rw (c.in-Goto.is, statement_form-Goto) (adds_nothing _)

pub add_form-returns-in-Fallthrough : goal.add_form-returns-in-Fallthrough
unfolding form_branches
add_form-returns-in-Fallthrough t c =
    rw (c.in-Fallthrough.is, statement_form-Fallthrough) (adds_nothing _)

pub add_form-returns-in-Block : goal.add_form-returns-in-Block
unfolding form_branches
add_form-returns-in-Block t c =
    rw (c.in-Block.is, statement_form-Block, block_statements-out, ← c.deref-in-Block.ensures.value) c.add_statements.ensures

pub add_form-returns-in_ok-add_statements-in-If : goal.add_form-returns-in_ok-add_statements-in-If
unfolding form_branches
add_form-returns-in_ok-add_statements-in-If t c =
    rw (
      c.in-If.is,
      statement_form-If,
      block_statements-out,
      braces_out,
      ← c.deref-in-If.ensures.value,
      ← c.are_silent-is_silent.ensures,
      c.deref-in-If.ensures.value,
      ← c.deref-in-If-2.ensures.value,
    )
    (four_adds _ _ _ _ _ _ _ _ _ _ c.in_ok-add_optional-in-If.ensures c.in_ok-add-in-If.ensures
    c.in_ok-add_statements-in-If.ensures c.add_optional-in-If.ensures)

pub add_form-returns-in_ok-add_statements-in-For : goal.add_form-returns-in_ok-add_statements-in-For
unfolding form_branches
add_form-returns-in_ok-add_statements-in-For t c =
    rw (c.in-For.is, statement_form-For, block_statements-out, ← c.deref-in-For.ensures.value)
    (four_adds _ _ _ _ _ _ _ _ _ _ c.in_ok-add_optional-in-For.ensures c.in_ok-add-in-For.ensures
    c.in_ok-add_statements-in-For.ensures c.add_optional-in-For-2.ensures)

pub add_form-returns-in_ok-add-in-RangeAssign : goal.add_form-returns-in_ok-add-in-RangeAssign
unfolding form_branches
add_form-returns-in_ok-add-in-RangeAssign t c =
    rw (c.in-RangeAssign.is, statement_form-RangeAssign, block_statements-out, ← c.deref-in-RangeAssign.ensures.value)
    (then_adds _ _ _ _ _ _ c.in_ok-add-in-RangeAssign.ensures c.add_statements-in-RangeAssign.ensures)

pub add_form-returns-in_ok-add-in-RangeDefine : goal.add_form-returns-in_ok-add-in-RangeDefine
unfolding form_branches
add_form-returns-in_ok-add-in-RangeDefine t c =
    rw (c.in-RangeDefine.is, statement_form-RangeDefine, block_statements-out, ← c.deref-in-RangeDefine.ensures.value)
    (then_adds _ _ _ _ _ _ c.in_ok-add-in-RangeDefine.ensures c.add_statements-in-RangeDefine.ensures)

pub add_form-returns-in_ok-add-in-Switch : goal.add_form-returns-in_ok-add-in-Switch
unfolding form_branches
add_form-returns-in_ok-add-in-Switch t c =
    rw (
      c.in-Switch.is,
      statement_form-Switch,
      ← c.deref-in-Switch.ensures.value,
      ← c.in_ok-offsets-in-Switch.ensures,
      c.deref-in-Switch.ensures.value,
      ← c.deref-in-Switch-2.ensures.value,
    )
    (three_adds _ _ _ _ _ _ _ _ c.in_ok-add_optional-in-Switch.ensures c.in_ok-add-in-Switch.ensures c.add_cases.ensures)

pub add_form-returns-in_ok-add-in-TypeSwitch : goal.add_form-returns-in_ok-add-in-TypeSwitch
unfolding form_branches
add_form-returns-in_ok-add-in-TypeSwitch t c =
    rw (
      c.in-TypeSwitch.is,
      statement_form-TypeSwitch,
      ← c.deref-in-TypeSwitch.ensures.value,
      ← c.in_ok-offsets-in-TypeSwitch.ensures,
      c.deref-in-TypeSwitch.ensures.value,
      ← c.deref-in-TypeSwitch-2.ensures.value,
    )
    (three_adds _ _ _ _ _ _ _ _ c.in_ok-add_optional-in-TypeSwitch.ensures c.in_ok-add-in-TypeSwitch.ensures c.add_cases-in-TypeSwitch.ensures)

pub add_form-returns-in_ok-add-in-Select : goal.add_form-returns-in_ok-add-in-Select
unfolding form_branches
add_form-returns-in_ok-add-in-Select t c =
    rw (
      c.in-Select.is,
      statement_form-Select,
      ← c.deref-in-Select.ensures.value,
      ← c.in_ok-offsets-in-Select.ensures,
      c.deref-in-Select.ensures.value,
      ← c.deref-in-Select-2.ensures.value,
    )
    (then_adds _ _ _ _ _ _ c.in_ok-add-in-Select.ensures c.add_communications.ensures)

pub add_optional-returns-in-Some : goal.add_optional-returns-in-Some
unfolding optional_branches
add_optional-returns-in-Some t c =
    rw (c.in-Some.is, ← c.deref.ensures) c.add_statement.ensures

pub add_optional-returns-in-None : goal.add_optional-returns-in-None
unfolding optional_branches
add_optional-returns-in-None t c =
    rw c.in-None.is (adds_nothing _)

pub add_case-returns : goal.add_case-returns
add_case-returns t c =
    rw (← c.deref.ensures.value) c.add_statements.ensures

pub add_communication-returns : goal.add_communication-returns
add_communication-returns t c =
    rw (← c.deref.ensures.value) c.add_statements.ensures

pub add_statements-loop-item-preserved : goal.add_statements-loop-item-preserved
unfolding branches_of
add_statements-loop-item-preserved t c =
    let items = drop_item c.args.list.now c.loop-item.item-index c.item-item.result c.loop-item-test.true c.item-item.is in
    adds_next _ _ _ _ _ _ c.loop-item.invariant (ap (λ l. branches_of (statements_syntax l)) items)
    c.in_ok-add_statement.ensures

pub add_statements-returns : goal.add_statements-returns
unfolding branches_of
add_statements-returns t c =
    let nothing = drop_past c.args.list.now c.loop-item.item-index c.loop-item-test.false in
    adds_all c.args.branches.now.items _ _ (branches_of (statements_syntax c.args.list.now)) c.loop-item.invariant
    (ap (λ l. branches_of (statements_syntax l)) nothing)

pub add_cases-loop-clause-preserved : goal.add_cases-loop-clause-preserved
unfolding case_branches
add_cases-loop-clause-preserved t c =
    let items = drop_item c.args.clauses.now c.loop-clause.clause-index c.clause-item.result c.loop-clause-test.true c.clause-item.is in
    adds_next _ _ _ (in_case c.clause-item.result) _ _ c.loop-clause.invariant (ap (λ l. case_branches (cases_syntax l)) items ∙ cases_more _ _)
    c.in_ok-add_case.ensures

pub add_cases-returns : goal.add_cases-returns
unfolding case_branches
add_cases-returns t c =
    let nothing = drop_past c.args.clauses.now c.loop-clause.clause-index c.loop-clause-test.false in
    adds_all c.args.branches.now.items _ _ (case_branches (cases_syntax c.args.clauses.now)) c.loop-clause.invariant
    (ap (λ l. case_branches (cases_syntax l)) nothing)

pub add_communications-loop-clause-preserved : goal.add_communications-loop-clause-preserved
unfolding communication_branches
add_communications-loop-clause-preserved t c =
    let items = drop_item c.args.clauses.now c.loop-clause.clause-index c.clause-item.result c.loop-clause-test.true c.clause-item.is in
    adds_next _ _ _ (in_communication c.clause-item.result) _ _ c.loop-clause.invariant (ap (λ l. communication_branches (communications_syntax l)) items ∙ communications_more _ _)
    c.in_ok-add_communication.ensures

pub add_communications-returns : goal.add_communications-returns
unfolding communication_branches
add_communications-returns t c =
    let nothing = drop_past c.args.clauses.now c.loop-clause.clause-index c.loop-clause-test.false in
    adds_all c.args.branches.now.items _ _ (communication_branches (communications_syntax c.args.clauses.now)) c.loop-clause.invariant
    (ap (λ l. communication_branches (communications_syntax l)) nothing)
