use Rattle.std.proofs.Common.{◌≡◌, false, map, drop}
use Rattle.accepting.specs.Findings.{finding_view}
use Rattle.report.specs.Cursors.{IsAt}
use Rattle.format_parts.specs.Pieces.{listed}
use Rattle.report_json.specs.JsonText.{finding_value}
use Rattle.format_parts.proofs.Steps.{Goes}
use Rattle.report_json.proofs.json_report.write_findings.Given as goal

abbrev pub invariant-loop-finding : goal.invariant-loop-finding
invariant-loop-finding g l =
    Goes (listed false (map (finding_value l.style l.fixes l.count (map finding_view l.findings) l.sources) (map finding_view l.findings))) (g.S.Sink.taken l.initial.sink) (g.S.Sink.taken l.sink) (listed l.is_later (map (finding_value l.style l.fixes l.count (map finding_view l.findings) l.sources) (map finding_view (drop l.finding-index l.findings))))
    × (g.S.Sink.refusals l.sink ≡ g.S.Sink.refusals l.initial.sink)
    × IsAt l.sources l.cursor
