use Rattle.sarif.proofs.SarifPieces.{end_is, no_end}
use Rattle.format_parts.proofs.Steps.{written_as}
use Rattle.sarif.proofs.log.close_region.Goals as goal

pub returns-in_default-clause-taken : goal.returns-in_default-clause-taken
returns-in_default-clause-taken g c = written_as _ _ _ _ (no_end _ c.in_default.is) _ c.put_all.ensures.taken

pub returns-clause-taken : goal.returns-clause-taken
returns-clause-taken g c = written_as _ _ _ _ (end_is _ _ c.in-Some.is) _ c.put_each.ensures.taken
