use Rattle.std.proofs.Common.{◌≡◌, false, drop}
use Rattle.report.specs.Cursors.{IsAt}
use Rattle.format_parts.specs.Pieces.{listed}
use Rattle.format_parts.proofs.Steps.{Goes}
use Rattle.report_formats.proofs.UnitFindings.{told_data}
use Rattle.report_formats.proofs.unit_json.write_findings.Given as goal

abbrev pub invariant-loop-finding : goal.invariant-loop-finding
invariant-loop-finding g l =
    Goes (listed false (told_data l.style l.fixes l.sources l.findings)) (g.S.Sink.taken l.initial.sink) (g.S.Sink.taken l.sink) (listed l.is_later (told_data l.style l.fixes l.sources (drop l.finding-index l.findings)))
    × (g.S.Sink.refusals l.sink ≡ g.S.Sink.refusals l.initial.sink)
    × IsAt l.sources l.cursor
