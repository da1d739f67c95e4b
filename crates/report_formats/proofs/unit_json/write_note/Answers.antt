use Rattle.std.proofs.Common.{◌<◌, ◌^◌, rules}
use Rattle.format_parts.proofs.Steps.{written_as}
use Rattle.report_formats.proofs.UnitFindings.{note_is}
use Rattle.report_formats.proofs.unit_json.write_note.Goals as goal

pub returns-clause-taken : goal.returns-clause-taken
returns-clause-taken g c =
    let t = c.text_parts.result in
    let place = c.note_place-line.result in
    let fits : place.line < 2 ^ 64 = search rules in
    let fit : place.column < 2 ^ 64 = search rules in
    let parts = note_is c.args.is_later c.args.wording c.args.note.now _ _ place.line place.column t.0.now t.1.now t.2.now t.3.now t.4.now c.comma.ensures c.name_of.ensures c.note_place-line.ensures.line c.note_place-line.ensures.column fits fit c.text_parts.ensures in
    written_as _ _ _ _ parts _ c.put_each.ensures.taken
