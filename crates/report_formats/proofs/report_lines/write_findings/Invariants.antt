use Rattle.std.proofs.Common.{◌≡◌, flat_map, drop}
use Rattle.accepting.specs.Findings.{finding_view}
use Rattle.report.specs.Cursors.{IsAt}
use Rattle.report_formats.specs.ReportLines.{told_lines}
use Rattle.format_parts.proofs.Steps.{Goes}
use Rattle.report_formats.proofs.report_lines.write_findings.Given as goal

abbrev pub invariant-loop-finding : goal.invariant-loop-finding
invariant-loop-finding g l =
    Goes (flat_map (λ f. told_lines l.style l.sources (finding_view f)) l.findings) (g.S.Sink.taken l.initial.sink) (g.S.Sink.taken l.sink) (flat_map (λ f. told_lines l.style l.sources (finding_view f)) (drop l.finding-index l.findings))
    × (g.S.Sink.refusals l.sink ≡ g.S.Sink.refusals l.initial.sink)
    × IsAt l.sources l.cursor
