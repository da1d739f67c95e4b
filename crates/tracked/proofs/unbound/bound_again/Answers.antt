use Rattle.std.proofs.Common.{◌||◌, is_some, ap}
use Rattle.std.specs.List.{list_any}
use Rattle.meaning.specs.Objects.{binds_again}
use Rattle.mentions.specs.MarkViews.{marks_view}
use Rattle.tracked_rows.specs.RowViews.{known_view}
use Rattle.tracked.proofs.BoundAgain.{next_bound, all_bound}
use Rattle.tracked.proofs.unbound.bound_again.Goals as goal

pub loop-mark-init : goal.loop-mark-init
loop-mark-init c = λ n.
    ap (λ o. is_some o || list_any (binds_again (known_view c.args.known) n) (marks_view c.args.marks.now)) (c.new-bound.ensures n)

pub loop-mark-preserved : goal.loop-mark-preserved
loop-mark-preserved c = λ n.
    next_bound (known_view c.args.known) n c.args.marks.now c.loop-mark.mark-index c.mark-item.result c.loop-mark-test.true
    c.mark-item.is c.loop-mark.bound c.note.new.bound (c.in_ok-note.ensures n) _ (c.loop-mark.invariant n)

pub returns : goal.returns
returns c = λ n.
    all_bound (known_view c.args.known) n c.args.marks.now c.loop-mark.mark-index c.loop-mark-test.false c.loop-mark.bound
    (c.loop-mark.invariant n)
