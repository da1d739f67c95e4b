use Rattle.report_json.proofs.JsonPieces.{ends_first, ends_second}
use Rattle.format_parts.proofs.Steps.{written_as}
use Rattle.report_json.proofs.json_report.close_report.Goals as goal

pub returns-in-First-clause-taken : goal.returns-in-First-clause-taken
returns-in-First-clause-taken g c = written_as _ _ _ _ (ends_first _ c.in-First.is) _ c.put_each.ensures.taken

pub returns-in-Second-clause-taken : goal.returns-in-Second-clause-taken
returns-in-Second-clause-taken g c = written_as _ _ _ _ (ends_second _ c.in-Second.is) _ c.put_each-in-Second.ensures.taken
