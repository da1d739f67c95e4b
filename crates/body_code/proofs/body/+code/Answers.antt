use Rattle.std.proofs.Common.{map, ap, ◌∙◌}
use Rattle.tree.proofs.Depths.{drop_item, drop_past}
use Rattle.tree.proofs.Views.{statement_form-Empty, statement_form-Decl, statement_form-Labeled, statement_form-Expr, statement_form-Send, statement_form-Increment, statement_form-Decrement, statement_form-Assign, statement_form-AssignOp, statement_form-Define, statement_form-Go, statement_form-Defer, statement_form-Return, statement_form-Break, statement_form-Continue, statement_form-Goto, statement_form-Fallthrough, statement_form-Block, statement_form-If, statement_form-For, statement_form-RangeAssign, statement_form-RangeDefine, statement_form-Switch, statement_form-TypeSwitch, statement_form-Select, block_statements-out}
use Rattle.tree.specs.View.{statement_syntax}
use Rattle.meaning.specs.Code.{breaking, continuing, leave, skip, then_code}
use Rattle.meaning.specs.StatementCode.{site, statement_code, form_code, optional_code}
use Rattle.code.specs.CodeViews.{text_now, sequence, choice}
use Rattle.body_code.specs.SiteViews.{sites_view}
use Rattle.code.proofs.Codes.{code_view-Skip, same_code}
use Rattle.code.proofs.CodeLists.{pushed, all_pushed}
use Rattle.body_code.proofs.Branches.{between_braces}
use Rattle.body_code.proofs.Bodies.{statement_codes, case_codes, communication_codes, sequence-statements, choice-cases, choice-communications, may_end_too}
use Rattle.body_code.proofs.body.+code.Goals as goal

pub statement-returns : goal.statement-returns
unfolding statement_code
statement-returns g t c = c.form.ensures

pub form-returns-in-Empty : goal.form-returns-in-Empty
unfolding form_code
form-returns-in-Empty g t c = rw (c.in-Empty.is, statement_form-Empty) code_view-Skip

pub form-returns-in-Decl : goal.form-returns-in-Decl
unfolding form_code
form-returns-in-Decl g t c = rw (c.in-Decl.is, statement_form-Decl) c.declaration.ensures

pub form-returns-in_ok-texts-in-Labeled : goal.form-returns-in_ok-texts-in-Labeled
unfolding form_code
form-returns-in_ok-texts-in-Labeled g t c =
    rw (c.in-Labeled.is, statement_form-Labeled, ← c.deref-in-Labeled.ensures)
    (same_code c.statement.result _ _
    (ap (λ l. statement_code (sites_view c.args.sites.now) l (statement_syntax c.deref-in-Labeled.result.now))
    (ap (map text_now) c.deref.ensures.value ∙ c.in_ok-texts-in-Labeled.ensures))
    c.statement.ensures)

pub form-returns-in-Expr : goal.form-returns-in-Expr
unfolding form_code
form-returns-in-Expr g t c = rw (c.in-Expr.is, statement_form-Expr) c.expression_statement.ensures

pub form-returns-in-Send : goal.form-returns-in-Send
unfolding form_code
form-returns-in-Send g t c = rw (c.in-Send.is, statement_form-Send) c.site.ensures

pub form-returns-in-Increment : goal.form-returns-in-Increment
unfolding form_code
form-returns-in-Increment g t c = rw (c.in-Increment.is, statement_form-Increment) c.site-in-Increment.ensures

pub form-returns-in-Decrement : goal.form-returns-in-Decrement
unfolding form_code
form-returns-in-Decrement g t c = rw (c.in-Decrement.is, statement_form-Decrement) c.site-in-Decrement.ensures

pub form-returns-in-Assign : goal.form-returns-in-Assign
unfolding form_code
form-returns-in-Assign g t c = rw (c.in-Assign.is, statement_form-Assign) c.site-in-Assign.ensures

pub form-returns-in-AssignOp : goal.form-returns-in-AssignOp
unfolding form_code
form-returns-in-AssignOp g t c = rw (c.in-AssignOp.is, statement_form-AssignOp) c.site-in-AssignOp.ensures

pub form-returns-in-Define : goal.form-returns-in-Define
unfolding form_code
form-returns-in-Define g t c = rw (c.in-Define.is, statement_form-Define) c.site-in-Define.ensures

pub form-returns-in-Go : goal.form-returns-in-Go
unfolding form_code
form-returns-in-Go g t c = rw (c.in-Go.is, statement_form-Go) c.site-in-Go.ensures

pub form-returns-in-Defer : goal.form-returns-in-Defer
unfolding form_code
form-returns-in-Defer g t c = rw (c.in-Defer.is, statement_form-Defer) c.site-in-Defer.ensures

pub form-returns-in-Return : goal.form-returns-in-Return
unfolding form_code
form-returns-in-Return g t c = rw (c.in-Return.is, statement_form-Return) c.leaving.ensures

pub form-returns-in-Break : goal.form-returns-in-Break
unfolding form_code
form-returns-in-Break g t c =
    rw (c.in-Break.is, statement_form-Break)
    (same_code c.leaving-in-Break.result _ _
    (ap (λ w. then_code (site (sites_view c.args.sites.now) c.args.at) (leave w))
    (c.way_to.ensures ∙ ap breaking c.label_of.ensures))
    c.leaving-in-Break.ensures)

pub form-returns-in-Continue : goal.form-returns-in-Continue
unfolding form_code
form-returns-in-Continue g t c =
    rw (c.in-Continue.is, statement_form-Continue)
    (same_code c.leaving-in-Continue.result _ _
    (ap (λ w. then_code (site (sites_view c.args.sites.now) c.args.at) (leave w))
    (c.way_to-in-Continue.ensures ∙ ap continuing c.label_of-in-Continue.ensures))
    c.leaving-in-Continue.ensures)

pub form-returns-in-Goto : goal.form-returns-in-Goto
unfolding form_code
form-returns-in-Goto g t c = rw (c.in-Goto.is, statement_form-Goto) c.ending.ensures

pub form-returns-in-Fallthrough : goal.form-returns-in-Fallthrough
unfolding form_code
form-returns-in-Fallthrough g t c =
    rw (c.in-Fallthrough.is, statement_form-Fallthrough) c.leaving-in-Fallthrough.ensures

pub form-returns-in-Block : goal.form-returns-in-Block
unfolding form_code
form-returns-in-Block g t c =
    rw (c.in-Block.is, statement_form-Block, block_statements-out, ← c.deref-in-Block.ensures.value) c.statements.ensures

pub form-returns-in-If : goal.form-returns-in-If
unfolding form_code
form-returns-in-If g t c =
    rw (c.in-If.is, statement_form-If, block_statements-out, ← c.deref-in-If.ensures.value)
    (between_braces (sites_view c.args.sites.now) c.two_ways.result _ c.last_brace.result _ _ _ _ c.last_brace.ensures
    (c.two_ways.ensures _ _ _ _ c.optional.ensures c.site-in-If.ensures
    (c.branch_at.ensures _ c.statements-in-If.ensures) (c.branch_at-in-If.ensures _ c.optional-in-If.ensures)))

pub form-returns-in-For : goal.form-returns-in-For
unfolding form_code
form-returns-in-For g t c =
    rw (c.in-For.is, statement_form-For, block_statements-out, ← c.deref-in-For.ensures.value)
    (may_end_too c.then.result _ _ _ _ _ c.is_present.result _ c.is_present.ensures
    (c.then.ensures _ _ c.optional-in-For.ensures (c.turns.ensures _ _ c.site-in-For.ensures
    (c.one_turn.ensures _ _ c.statements-in-For.ensures c.optional-in-For-2.ensures))))

pub form-returns-in-RangeAssign : goal.form-returns-in-RangeAssign
unfolding form_code
form-returns-in-RangeAssign g t c =
    rw (c.in-RangeAssign.is, statement_form-RangeAssign, block_statements-out, ← c.deref-in-RangeAssign.ensures.value)
    (c.turns-in-RangeAssign.ensures _ _ c.site-in-RangeAssign.ensures
    (c.one_turn-in-RangeAssign.ensures _ skip c.statements-in-RangeAssign.ensures code_view-Skip))

pub form-returns-in-RangeDefine : goal.form-returns-in-RangeDefine
unfolding form_code
form-returns-in-RangeDefine g t c =
    rw (c.in-RangeDefine.is, statement_form-RangeDefine, block_statements-out, ← c.deref-in-RangeDefine.ensures.value)
    (c.turns-in-RangeDefine.ensures _ _ c.site-in-RangeDefine.ensures
    (c.one_turn-in-RangeDefine.ensures _ skip c.statements-in-RangeDefine.ensures code_view-Skip))

pub form-returns-in-Switch : goal.form-returns-in-Switch
unfolding form_code
form-returns-in-Switch g t c =
    rw (c.in-Switch.is, statement_form-Switch, ← c.deref-list.ensures.value)
    (c.then-in-Switch.ensures _ _ c.optional-in-Switch.ensures
    (c.switch.ensures _ _ c.site-in-Switch.ensures c.cases.ensures))

pub form-returns-in-TypeSwitch : goal.form-returns-in-TypeSwitch
unfolding form_code
form-returns-in-TypeSwitch g t c =
    rw (c.in-TypeSwitch.is, statement_form-TypeSwitch, ← c.deref-list-in-TypeSwitch.ensures.value)
    (c.then-in-TypeSwitch.ensures _ _ c.optional-in-TypeSwitch.ensures
    (c.one_clause.ensures _ _ c.site-in-TypeSwitch.ensures c.cases-in-TypeSwitch.ensures))

pub form-returns-in-Select : goal.form-returns-in-Select
unfolding form_code
form-returns-in-Select g t c =
    rw (c.in-Select.is, statement_form-Select, ← c.deref-in-Select.ensures.value)
    (c.one_communication.ensures _ _ c.site-in-Select.ensures c.communications.ensures)

pub optional-returns-in-Some : goal.optional-returns-in-Some
unfolding optional_code
optional-returns-in-Some g t c = rw (c.in-Some.is, ← c.deref.ensures) c.statement.ensures

pub optional-returns-in-None : goal.optional-returns-in-None
unfolding optional_code
optional-returns-in-None g t c = rw c.in-None.is code_view-Skip

pub statements-loop-item-preserved : goal.statements-loop-item-preserved
statements-loop-item-preserved g t c =
    let items = drop_item c.args.list.now c.loop-item.item-index c.item-item.result c.loop-item-test.true c.item-item.is in
    pushed c.loop-item.codes.items c.push.new.self.items c.in_ok-code.code _ _ _ _ c.in_ok-push.ensures.items
    c.in_ok-code.ensures (ap (statement_codes (sites_view c.args.sites.now)) items) c.loop-item.invariant

pub statements-returns : goal.statements-returns
statements-returns g t c =
    let nothing = drop_past c.args.list.now c.loop-item.item-index c.loop-item-test.false in
    c.in_sequence.ensures
    ∙ ap sequence (all_pushed c.loop-item.codes.items _ _ (ap (statement_codes (sites_view c.args.sites.now)) nothing)
    c.loop-item.invariant)
    ∙ sequence-statements (sites_view c.args.sites.now) c.args.list.now

pub case-returns : goal.case-returns
case-returns g t c = rw (← c.deref.ensures.value) (c.then.ensures _ _ c.site.ensures c.statements.ensures)

pub communication-returns : goal.communication-returns
communication-returns g t c = rw (← c.deref.ensures.value) (c.then.ensures _ _ c.site.ensures c.statements.ensures)

pub cases-loop-clause-preserved : goal.cases-loop-clause-preserved
cases-loop-clause-preserved g t c =
    let items = drop_item c.args.clauses.now c.loop-clause.clause-index c.clause-item.result c.loop-clause-test.true c.clause-item.is in
    pushed c.loop-clause.codes.items c.push.new.self.items c.in_ok-code.code _ _ _ _ c.in_ok-push.ensures.items
    c.in_ok-code.ensures (ap (case_codes (sites_view c.args.sites.now)) items) c.loop-clause.invariant

pub cases-returns : goal.cases-returns
cases-returns g t c =
    let nothing = drop_past c.args.clauses.now c.loop-clause.clause-index c.loop-clause-test.false in
    c.one_of.ensures
    ∙ ap choice (all_pushed c.loop-clause.codes.items _ _ (ap (case_codes (sites_view c.args.sites.now)) nothing)
    c.loop-clause.invariant)
    ∙ choice-cases (sites_view c.args.sites.now) c.args.clauses.now

pub communications-loop-clause-preserved : goal.communications-loop-clause-preserved
communications-loop-clause-preserved g t c =
    let items = drop_item c.args.clauses.now c.loop-clause.clause-index c.clause-item.result c.loop-clause-test.true c.clause-item.is in
    pushed c.loop-clause.codes.items c.push.new.self.items c.in_ok-code.code _ _ _ _ c.in_ok-push.ensures.items
    c.in_ok-code.ensures (ap (communication_codes (sites_view c.args.sites.now)) items) c.loop-clause.invariant

pub communications-returns : goal.communications-returns
communications-returns g t c =
    let nothing = drop_past c.args.clauses.now c.loop-clause.clause-index c.loop-clause-test.false in
    c.one_of.ensures
    ∙ ap choice (all_pushed c.loop-clause.codes.items _ _ (ap (communication_codes (sites_view c.args.sites.now)) nothing)
    c.loop-clause.invariant)
    ∙ choice-communications (sites_view c.args.sites.now) c.args.clauses.now
