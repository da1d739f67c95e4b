use Rattle.report_json.proofs.JsonPieces.{kind_is, no_kind}
use Rattle.format_parts.proofs.Steps.{nothing_put, written_as}
use Rattle.report_json.proofs.json_report.write_kind.Goals as goal

pub returns-in-First-clause-taken : goal.returns-in-First-clause-taken
returns-in-First-clause-taken g c = nothing_put _ _ (no_kind _ _ c.in-First.is)

pub returns-in-Second-clause-taken : goal.returns-in-Second-clause-taken
returns-in-Second-clause-taken g c =
    written_as _ _ _ _ (kind_is _ _ _ _ c.in-Second.is c.kind_text.ensures c.taken_text.ensures) _ c.put_each.ensures.taken
