use Rattle.format_parts.proofs.Steps.{nothing_put, written_as}
use Rattle.report_json.proofs.WayPieces.{line_is, same_line}
use Rattle.report_json.proofs.way_lines.write_line.Goals as goal

pub returns-then-line-last-clause-taken : goal.returns-then-line-last-clause-taken
returns-then-line-last-clause-taken g c = nothing_put _ _ (same_line c.args.is_later c.args.last c.args.line c.if-line-last.true)

pub returns-else-line-last-clause-taken : goal.returns-else-line-last-clause-taken
returns-else-line-last-clause-taken g c =
    written_as _ _ _ _ (line_is c.args.is_later c.args.last c.args.line _ c.if-line-last.false c.comma.ensures) _ c.put_each.ensures.taken
