use Rattle.std.proofs.Common.{true, ap}
use Rattle.format_parts.specs.Pieces.{members_listed}
use Rattle.sarif.specs.SarifText.{detail_members}
use Rattle.sarif.proofs.SarifPieces.{no_details}
use Rattle.format_parts.proofs.Steps.{nothing_put, written_as}
use Rattle.sarif.proofs.sarif_rules.write_details.Goals as goal

pub returns-in-First-clause-taken : goal.returns-in-First-clause-taken
returns-in-First-clause-taken g c = nothing_put _ _ (no_details _ c.args.code c.in-First.is)

pub returns-in-Second-clause-taken : goal.returns-in-Second-clause-taken
returns-in-Second-clause-taken g c =
    written_as _ _ _ _ (ap (λ w. members_listed true (detail_members w c.args.code)) c.in-Second.is) _ c.write_help.ensures.taken
