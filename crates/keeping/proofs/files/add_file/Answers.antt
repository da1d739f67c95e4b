use Rattle.std.proofs.Common.{map, ap, sym, ◌∙◌}
use Rattle.meaning.specs.BodyEvents.{seen_file}
use Rattle.mentions.specs.MarkViews.{marks_view}
use Rattle.tracked.specs.LocalViews.{seen_view}
use Rattle.tracked_rows.specs.RowViews.{known_view}
use Rattle.tree.specs.View.{file_syntax}
use Rattle.keeping.specs.Keeping.{each_known}
use Rattle.noted_fields.specs.NotedFields.{note_view}
use Rattle.keeping.specs.PlainFiles.{may_put}
use Rattle.keeping.proofs.FilesNoted.{file_noted}
use Rattle.keeping.proofs.PlainFiles.{file_said}
use Rattle.keeping.proofs.files.add_file.Goals as goal

pub returns-then-may : goal.returns-then-may
returns-then-may c =
    file_noted c.add_all.result (map note_view c.args.notes.now.items) (map note_view c.add_all.new.notes.items)
    (seen_view c.in_ok-seen.seen) (seen_file (each_known c.args.known c.args.number) (file_syntax c.args.file.now))
    (c.in_ok-seen.ensures.view ∙ ap (λ known. seen_file known (file_syntax c.args.file.now)) c.known_at-here.ensures)
    c.add_all.ensures

pub returns : goal.returns
returns c =
    file_said c.args.known c.args.number (file_syntax c.args.file.now) c.add_all_plainly.result
    (map note_view c.args.notes.now.items) (map note_view c.add_all_plainly.new.notes.items) c.known_at-here.result
    c.deref-2.result.now c.known_at-here.ensures
    (ap marks_view c.deref-2.ensures.value ∙ c.in_ok-marks.ensures)
    (ap (λ ms. may_put (known_view c.known_at-here.result) (marks_view ms)) (c.deref-2.ensures.value ∙ sym c.deref.ensures.value)
    ∙ sym c.in_ok-may.ensures ∙ c.if-may.false)
    c.add_all_plainly.ensures
