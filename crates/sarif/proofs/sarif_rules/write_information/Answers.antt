use Rattle.sarif.proofs.SarifPieces.{information_is, no_information}
use Rattle.format_parts.proofs.Steps.{nothing_put, written_as}
use Rattle.sarif.proofs.sarif_rules.write_information.Goals as goal

pub returns-then-is_empty-clause-taken : goal.returns-then-is_empty-clause-taken
returns-then-is_empty-clause-taken g c = nothing_put _ _ (no_information _ c.if-is_empty.ensures)

pub returns-clause-taken : goal.returns-clause-taken
returns-clause-taken g c = written_as _ _ _ _ (information_is _ c.if-is_empty.ensures) _ c.put_each.ensures.taken
