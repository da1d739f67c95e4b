use Rattle.std.proofs.Common.{arith, ap, ◌∙◌}
use Rattle.tracked.specs.LocalViews.{seen_view}
use Rattle.meaning.specs.Tracked.{lefts_of, left_local}
use Rattle.meaning.specs.Uses.{is_group_or_none}
use Rattle.mentions.specs.MarkViews.{form_view}
use Rattle.uses.proofs.LeftSides.{one_fails, one_passes}
use Rattle.uses.proofs.bindings.are_all_groups.Goals as goal

pub returns-then-not-is_group_or_none : goal.returns-then-not-is_group_or_none
returns-then-not-is_group_or_none c =
    let seen = seen_view c.args.seen.now in
    one_fails (λ l. is_group_or_none seen (left_local seen.known l)) (lefts_of (form_view c.args.row.form)) c.loop-index.index
    (omega (arith, c.loop-index-test.true, c.count-index-end.ensures)) _
    (c.is_group_or_none.ensures ∙ ap (is_group_or_none seen) c.local_at.ensures) _ c.loop-index.invariant c.if-not-is_group_or_none.true

pub loop-index-preserved : goal.loop-index-preserved
loop-index-preserved c =
    let seen = seen_view c.args.seen.now in
    one_passes (λ l. is_group_or_none seen (left_local seen.known l)) (lefts_of (form_view c.args.row.form)) c.loop-index.index
    (omega (arith, c.loop-index-test.true, c.count-index-end.ensures)) _
    (c.is_group_or_none.ensures ∙ ap (is_group_or_none seen) c.local_at.ensures) _ c.loop-index.invariant c.if-not-is_group_or_none.false
