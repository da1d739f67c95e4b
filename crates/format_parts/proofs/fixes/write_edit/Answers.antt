use Rattle.format_parts.proofs.FixParts.{edit_is}
use Rattle.format_parts.proofs.Steps.{written_as}
use Rattle.format_parts.proofs.fixes.write_edit.Goals as goal

pub returns-clause-taken : goal.returns-clause-taken
returns-clause-taken g c =
    written_as _ _ _ _ (edit_is c.args.is_later c.args.file.now c.args.edit.now _ _ c.comma.ensures c.as_str.ensures.value) _ c.put_each.ensures.taken
