use Rattle.std.proofs.Common.{slice_get}
use Rattle.format_parts.proofs.Steps.{written_as}
use Rattle.sarif.proofs.FixPieces.{edit_is}
use Rattle.sarif.proofs.fixes.write_replacement.Goals as goal

pub returns-clause-taken : goal.returns-clause-taken
returns-clause-taken g c =
    let start = c.moved_in_code_points-start.ensures in
    let end = c.moved_in_code_points-end.ensures in
    written_as _ _ _ _ (edit_is c.args.is_later (slice_get c.args.sources.now c.args.file) c.args.edit.now _ _ _ _ _ _ c.comma.ensures start.line start.column end.line end.column c.as_str.ensures.value) _ c.put_each.ensures.taken
