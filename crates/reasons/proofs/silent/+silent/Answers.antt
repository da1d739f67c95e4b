use Rattle.std.proofs.Common.{refl, sym, ap, ◌∙◌, ◌&&◌, ◌+◌, drop}
use Rattle.tree.proofs.Depths.{drop_item, drop_past}
use Rattle.tree.proofs.Views.{statement_form-Empty, statement_form-Decl, statement_form-Labeled, statement_form-Block, block_statements-out, statement_form-Expr, statement_form-Send, statement_form-Increment, statement_form-Decrement, statement_form-Assign, statement_form-AssignOp, statement_form-Define, statement_form-Go, statement_form-Defer, statement_form-Return, statement_form-Break, statement_form-Continue, statement_form-Goto, statement_form-Fallthrough, statement_form-If, statement_form-For, statement_form-RangeAssign, statement_form-RangeDefine, statement_form-Switch, statement_form-TypeSwitch, statement_form-Select}
use Rattle.tree.specs.View.{statements_syntax}
use Rattle.reasons.specs.Branches.{are_silent, is_silent_form}
use Rattle.reasons.proofs.SilentStatements.{no_specs, silent_first}
use Rattle.reasons.proofs.silent.+silent.Goals as goal

pub is_silent_form-returns-in-Empty : goal.is_silent_form-returns-in-Empty
unfolding is_silent_form
is_silent_form-returns-in-Empty t c =
    rw (c.in-Empty.is, statement_form-Empty) refl

pub is_silent_form-returns-in-Decl : goal.is_silent_form-returns-in-Decl
is_silent_form-returns-in-Decl t c =
    let d = c.in-Decl.declared in
    rw (c.in-Decl.is, statement_form-Decl)
    (c.is_empty.ensures ∙ no_specs d.keyword d.is_grouped d.span d.specs.items _ d.specs.ok.0)

pub is_silent_form-returns-in-Labeled : goal.is_silent_form-returns-in-Labeled
unfolding is_silent_form
is_silent_form-returns-in-Labeled t c =
    rw (c.in-Labeled.is, statement_form-Labeled, ← c.deref.ensures) c.is_silent_form.ensures

pub is_silent_form-returns-in-Block : goal.is_silent_form-returns-in-Block
unfolding is_silent_form
is_silent_form-returns-in-Block t c =
    rw (c.in-Block.is, statement_form-Block, block_statements-out, ← c.deref-in-Block.ensures.value) c.are_silent.ensures

pub is_silent_form-returns-in-Expr : goal.is_silent_form-returns-in-Expr
unfolding is_silent_form
is_silent_form-returns-in-Expr t c =
    rw (c.in-Expr.is, statement_form-Expr) refl

pub is_silent_form-returns-in-Send : goal.is_silent_form-returns-in-Send
unfolding is_silent_form
is_silent_form-returns-in-Send t c =
    rw (c.in-Send.is, statement_form-Send) refl

pub is_silent_form-returns-in-Increment : goal.is_silent_form-returns-in-Increment
unfolding is_silent_form
is_silent_form-returns-in-Increment t c =
    rw (c.in-Increment.is, statement_form-Increment) refl

pub is_silent_form-returns-in-Decrement : goal.is_silent_form-returns-in-Decrement
unfolding is_silent_form
is_silent_form-returns-in-Decrement t c =
    rw (c.in-Decrement.is, statement_form-Decrement) refl

pub is_silent_form-returns-in-Assign : goal.is_silent_form-returns-in-Assign
unfolding is_silent_form
is_silent_form-returns-in-Assign t c =
    rw (c.in-Assign.is, statement_form-Assign) refl

pub is_silent_form-returns-in-AssignOp : goal.is_silent_form-returns-in-AssignOp
unfolding is_silent_form
is_silent_form-returns-in-AssignOp t c =
    rw (c.in-AssignOp.is, statement_form-AssignOp) refl

pub is_silent_form-returns-in-Define : goal.is_silent_form-returns-in-Define
unfolding is_silent_form
is_silent_form-returns-in-Define t c =
    rw (c.in-Define.is, statement_form-Define) refl

pub is_silent_form-returns-in-Go : goal.is_silent_form-returns-in-Go
unfolding is_silent_form
is_silent_form-returns-in-Go t c =
    rw (c.in-Go.is, statement_form-Go) refl

pub is_silent_form-returns-in-Defer : goal.is_silent_form-returns-in-Defer
unfolding is_silent_form
is_silent_form-returns-in-Defer t c =
    rw (c.in-Defer.is, statement_form-Defer) refl

pub is_silent_form-returns-in-Return : goal.is_silent_form-returns-in-Return
unfolding is_silent_form
is_silent_form-returns-in-Return t c =
    rw (c.in-Return.is, statement_form-Return) refl

pub is_silent_form-returns-in-Break : goal.is_silent_form-returns-in-Break
unfolding is_silent_form
is_silent_form-returns-in-Break t c =
    rw (c.in-Break.is, statement_form-Break) refl

pub is_silent_form-returns-in-Continue : goal.is_silent_form-returns-in-Continue
unfolding is_silent_form
is_silent_form-returns-in-Continue t c =
    rw (c.in-Continue.is, statement_form-Continue) refl

pub is_silent_form-returns-in-Goto : goal.is_silent_form-returns-in-Goto
unfolding is_silent_form
is_silent_form-returns-in-Goto t c =
    rw (c.in-Goto.is, statement_form-Goto) refl

pub is_silent_form-returns-in-Fallthrough : goal.is_silent_form-returns-in-Fallthrough
unfolding is_silent_form
is_silent_form-returns-in-Fallthrough t c =
    rw (c.in-Fallthrough.is, statement_form-Fallthrough) refl

pub is_silent_form-returns-in-If : goal.is_silent_form-returns-in-If
unfolding is_silent_form
is_silent_form-returns-in-If t c =
    rw (c.in-If.is, statement_form-If) refl

pub is_silent_form-returns-in-For : goal.is_silent_form-returns-in-For
unfolding is_silent_form
is_silent_form-returns-in-For t c =
    rw (c.in-For.is, statement_form-For) refl

pub is_silent_form-returns-in-RangeAssign : goal.is_silent_form-returns-in-RangeAssign
unfolding is_silent_form
is_silent_form-returns-in-RangeAssign t c =
    rw (c.in-RangeAssign.is, statement_form-RangeAssign) refl

pub is_silent_form-returns-in-RangeDefine : goal.is_silent_form-returns-in-RangeDefine
unfolding is_silent_form
is_silent_form-returns-in-RangeDefine t c =
    rw (c.in-RangeDefine.is, statement_form-RangeDefine) refl

pub is_silent_form-returns-in-Switch : goal.is_silent_form-returns-in-Switch
unfolding is_silent_form
is_silent_form-returns-in-Switch t c =
    rw (c.in-Switch.is, statement_form-Switch) refl

pub is_silent_form-returns-in-TypeSwitch : goal.is_silent_form-returns-in-TypeSwitch
unfolding is_silent_form
is_silent_form-returns-in-TypeSwitch t c =
    rw (c.in-TypeSwitch.is, statement_form-TypeSwitch) refl

pub is_silent_form-returns-in-Select : goal.is_silent_form-returns-in-Select
unfolding is_silent_form
is_silent_form-returns-in-Select t c =
    rw (c.in-Select.is, statement_form-Select) refl

pub are_silent-returns-then-not-is_silent_form : goal.are_silent-returns-then-not-is_silent_form
are_silent-returns-then-not-is_silent_form t c =
    let i = c.loop-item.item-index in
    let rest = drop (i + 1) c.args.list.now in
    let items = drop_item c.args.list.now i c.item-item.result c.loop-item-test.true c.item-item.is in
    ap (λ b. b && are_silent (statements_syntax rest)) c.if-not-is_silent_form.ensures
    ∙ sym (silent_first c.item-item.result rest)
    ∙ sym (ap (λ l. are_silent (statements_syntax l)) items)
    ∙ c.loop-item.invariant

pub are_silent-loop-item-preserved : goal.are_silent-loop-item-preserved
are_silent-loop-item-preserved t c =
    let i = c.loop-item.item-index in
    let rest = drop (i + 1) c.args.list.now in
    let items = drop_item c.args.list.now i c.item-item.result c.loop-item-test.true c.item-item.is in
    ap (λ b. b && are_silent (statements_syntax rest)) c.if-not-is_silent_form.ensures
    ∙ sym (silent_first c.item-item.result rest)
    ∙ sym (ap (λ l. are_silent (statements_syntax l)) items)
    ∙ c.loop-item.invariant

pub are_silent-returns : goal.are_silent-returns
unfolding are_silent
are_silent-returns t c =
    let nothing = drop_past c.args.list.now c.loop-item.item-index c.loop-item-test.false in
    sym (ap (λ l. are_silent (statements_syntax l)) nothing) ∙ c.loop-item.invariant
