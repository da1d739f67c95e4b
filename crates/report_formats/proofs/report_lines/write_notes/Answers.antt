use Rattle.std.proofs.lemmas.Result.{err_from_is_err_and}
use Rattle.report.proofs.Fronts.{fails_at_item}
use Rattle.report_formats.specs.ReportLines.{note_line}
use Rattle.report_formats.proofs.report_lines.write_notes.Goals as goal

pub returns-in_err-write_note-clause-taken : goal.returns-in_err-write_note-clause-taken
returns-in_err-write_note-clause-taken g c =
    let p = err_from_is_err_and c.from_residual.result c.from_residual.ensures.1 in
    fails_at_item (note_line c.args.wording) c.args.notes.now c.loop-note.note-index c.note-item.result c.loop-note-test.true c.note-item.is _ _ _ c.loop-note.invariant.0 c.in_err-write_note.ensures.taken _ p.0 p.1
