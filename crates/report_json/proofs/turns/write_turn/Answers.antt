use Rattle.report_json.proofs.JsonPieces.{no_turn, turn_is}
use Rattle.format_parts.proofs.Steps.{nothing_put, written_as}
use Rattle.report_json.proofs.turns.write_turn.Goals as goal

pub returns-in_default-clause-taken : goal.returns-in_default-clause-taken
returns-in_default-clause-taken g c = nothing_put _ _ (no_turn _ c.in_default.is)

pub returns-clause-taken : goal.returns-clause-taken
returns-clause-taken g c = written_as _ _ _ _ (turn_is _ _ c.in-Some.is) _ c.put_each.ensures.taken
