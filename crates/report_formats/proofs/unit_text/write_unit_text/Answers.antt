use Rattle.format_parts.proofs.Steps.{written_as}
use Rattle.report_formats.proofs.TextParts.{unit_parts}
use Rattle.report_formats.proofs.unit_text.write_unit_text.Goals as goal

pub returns-clause-taken : goal.returns-clause-taken
returns-clause-taken g c =
    let parts = unit_parts c.args.style c.args.around c.args.unit.now _ c.deref.ensures.value in
    written_as _ _ _ _ parts _ c.write_all.ensures.taken
