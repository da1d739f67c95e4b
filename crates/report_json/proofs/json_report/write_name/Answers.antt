use Rattle.report_json.proofs.JsonPieces.{name_is}
use Rattle.format_parts.proofs.Steps.{written_as}
use Rattle.report_json.proofs.json_report.write_name.Goals as goal

pub returns-clause-taken : goal.returns-clause-taken
returns-clause-taken g c =
    written_as _ _ _ _ (name_is c.args.is_later c.args.name.now _ c.comma.ensures) _ c.put_each.ensures.taken
