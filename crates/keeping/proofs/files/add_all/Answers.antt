use Rattle.std.proofs.Common.{◌++◌, ◌∙◌, [], ap, map, refl}
use Rattle.mentions.specs.MarkViews.{body_view, marks_view}
use Rattle.tracked.specs.LocalViews.{seen_view}
use Rattle.keeping.specs.Notes.{notes_there}
use Rattle.noted_fields.specs.NotedFields.{note_view}
use Rattle.keeping.proofs.MarksNoted.{there, more_notes, all_noted}
use Rattle.keeping.proofs.files.add_all.Goals as goal

pub loop-mark-preserved : goal.loop-mark-preserved
loop-mark-preserved c =
    more_notes (notes_there (seen_view c.args.seen.now)) (λ bs. refl) c.deref-mark-items.result.now c.loop-mark.mark-index c.mark-item.result
    c.loop-mark-test.true c.mark-item.is c.loop-mark.bodies.items c.enter.new.bodies.items c.deref.result.now
    c.in_ok-enter.ensures c.deref.ensures.value (map note_view c.loop-mark.notes.items)
    (map note_view c.add_notes.new.notes.items) _ c.in_ok-add_notes.ensures c.loop-mark.invariant

pub returns : goal.returns
returns c =
    let seen = seen_view c.args.seen.now in
    all_noted (notes_there seen) c.deref-mark-items.result.now c.loop-mark.mark-index c.loop-mark-test.false
    (map body_view c.loop-mark.bodies.items) (map note_view c.loop-mark.notes.items) _ c.loop-mark.invariant
    ∙ ap (λ ms. map note_view c.args.notes.now.items ++ there (notes_there seen) [] (marks_view ms)) c.deref-mark-items.ensures.value
