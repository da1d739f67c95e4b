use Rattle.report_json.proofs.JsonPieces.{end_is, no_end}
use Rattle.format_parts.proofs.Steps.{nothing_put, written_as}
use Rattle.report_json.proofs.places.write_end.Goals as goal

pub returns-in_default-clause-taken : goal.returns-in_default-clause-taken
returns-in_default-clause-taken g c = nothing_put _ _ (no_end _ c.in_default.is)

pub returns-clause-taken : goal.returns-clause-taken
returns-clause-taken g c = written_as _ _ _ _ (end_is _ _ c.in-Some.is) _ c.put_each.ensures.taken
