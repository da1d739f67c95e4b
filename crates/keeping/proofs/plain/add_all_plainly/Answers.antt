use Rattle.std.proofs.Common.{map, refl}
use Rattle.mentions.specs.MarkViews.{body_view}
use Rattle.tracked_rows.specs.RowViews.{known_view}
use Rattle.noted_fields.specs.NotedFields.{note_view}
use Rattle.keeping.specs.PlainFiles.{plain_notes}
use Rattle.keeping.proofs.MarksNoted.{more_notes, all_noted}
use Rattle.keeping.proofs.plain.add_all_plainly.Goals as goal

pub loop-mark-preserved : goal.loop-mark-preserved
loop-mark-preserved c =
    more_notes (plain_notes (known_view c.args.known)) (λ bs. refl) c.args.marks.now c.loop-mark.mark-index c.mark-item.result
    c.loop-mark-test.true c.mark-item.is c.loop-mark.bodies.items c.enter.new.bodies.items c.deref.result.now
    c.in_ok-enter.ensures c.deref.ensures.value (map note_view c.loop-mark.notes.items)
    (map note_view c.add_plain_notes.new.notes.items) _ c.in_ok-add_plain_notes.ensures c.loop-mark.invariant

pub returns : goal.returns
returns c =
    all_noted (plain_notes (known_view c.args.known)) c.args.marks.now c.loop-mark.mark-index c.loop-mark-test.false
    (map body_view c.loop-mark.bodies.items) (map note_view c.loop-mark.notes.items) _ c.loop-mark.invariant
