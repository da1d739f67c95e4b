use Rattle.std.proofs.Common.{[], sym, ap, ◌∙◌}
use Rattle.mentions.specs.MarkViews.{marks_view}
use Rattle.tracked.specs.LocalViews.{seen_view}
use Rattle.tracked.proofs.FirstObtainings.{first_in, first_placed, next_noted, all_noted}
use Rattle.tracked.proofs.obtainings.first_obtainings.Goals as goal

pub loop-mark-preserved : goal.loop-mark-preserved
loop-mark-preserved c = λ n.
    next_noted (seen_view c.args.seen.now) n c.deref-mark-items.result.now c.loop-mark.mark-index c.mark-item.result
    c.loop-mark-test.true c.mark-item.is c.loop-mark.obtainings c.note.new.obtainings (c.in_ok-note.ensures n) _
    (c.loop-mark.invariant n)

pub returns : goal.returns
returns c = λ n.
    let seen = seen_view c.args.seen.now in
    all_noted seen n c.deref-mark-items.result.now c.loop-mark.mark-index c.loop-mark-test.false c.loop-mark.obtainings
    _ (c.loop-mark.invariant n)
    ∙ ap (λ ms. first_in seen n (marks_view ms)) c.deref-mark-items.ensures.value
    ∙ sym (first_placed seen n [] (marks_view c.args.seen.now.marks.items))
