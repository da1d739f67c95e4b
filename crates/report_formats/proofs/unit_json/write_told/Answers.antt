use Rattle.std.proofs.Common.{sym}
use Rattle.accepting.specs.Findings.{finding_view}
use Rattle.format_parts.proofs.Steps.{nothing_put, written_as}
use Rattle.report_formats.proofs.UnitFindings.{told_is, untold_is}
use Rattle.report_formats.proofs.unit_json.write_told.Goals as goal

pub returns-then-is_told-clause-taken : goal.returns-then-is_told-clause-taken
returns-then-is_told-clause-taken g c =
    written_as _ _ _ _ (told_is c.args.style c.args.fixes.now c.args.sources.now c.args.is_later (finding_view c.args.finding.now) (sym c.if-is_told.ensures)) _ c.write_finding.ensures.taken

pub returns-else-is_told-clause-taken : goal.returns-else-is_told-clause-taken
returns-else-is_told-clause-taken g c =
    nothing_put _ _ (untold_is c.args.style c.args.fixes.now c.args.sources.now c.args.is_later (finding_view c.args.finding.now) (sym c.if-is_told.ensures))
