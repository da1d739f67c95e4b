use Rattle.report_formats.proofs.NoteLines.{line_is}
use Rattle.format_parts.proofs.Steps.{written_as}
use Rattle.report_formats.proofs.report_lines.write_note.Goals as goal

pub returns-clause-taken : goal.returns-clause-taken
returns-clause-taken g c =
    let t = c.text_parts.result in
    let parts = line_is c.args.wording c.args.note.now t.0.now t.1.now t.2.now t.3.now t.4.now c.text_parts.ensures _ _ _ c.name_of.ensures c.note_place-place.ensures.line c.note_place-place.ensures.column in
    written_as _ _ _ _ parts _ c.put_pieces.ensures.taken
