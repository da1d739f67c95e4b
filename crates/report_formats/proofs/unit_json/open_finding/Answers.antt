use Rattle.std.proofs.Common.{◌<◌, ◌^◌, rules, slice_get}
use Rattle.report.specs.Entries.{entry_of}
use Rattle.format_parts.proofs.Steps.{written_as}
use Rattle.report_formats.proofs.UnitFindings.{found_is}
use Rattle.report_formats.proofs.unit_json.open_finding.Goals as goal

pub returns-clause-taken : goal.returns-clause-taken
returns-clause-taken g c =
    let d = c.args.diagnostic.now in
    let fits : c.args.place.line < 2 ^ 64 = search rules in
    let fit : c.args.place.column < 2 ^ 64 = search rules in
    let parts = found_is c.args.is_later c.args.wording (slice_get c.args.sources.now d.file) (entry_of d) _ _ _ _ _ _ c.args.place.line c.args.place.column c.comma.ensures c.number.ensures c.name_of.ensures c.name_said.ensures c.words.ensures c.requires.line c.requires.column fits fit in
    written_as _ _ _ _ parts _ c.put_each.ensures.taken
