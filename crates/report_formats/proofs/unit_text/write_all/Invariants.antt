use Rattle.std.proofs.Common.{◌≡◌, flat_map, drop}
use Rattle.accepting.specs.Findings.{finding_view}
use Rattle.report.specs.Cursors.{IsAt}
use Rattle.report_formats.specs.UnitText.{unit_told}
use Rattle.format_parts.proofs.Steps.{Goes}
use Rattle.report_formats.proofs.unit_text.write_all.Given as goal

abbrev pub invariant-loop-finding : goal.invariant-loop-finding
invariant-loop-finding g l =
    Goes (flat_map (λ f. unit_told l.style l.around l.sources (finding_view f)) l.findings) (g.S.Sink.taken l.initial.sink) (g.S.Sink.taken l.sink) (flat_map (λ f. unit_told l.style l.around l.sources (finding_view f)) (drop l.finding-index l.findings))
    × (g.S.Sink.refusals l.sink ≡ g.S.Sink.refusals l.initial.sink)
    × IsAt l.sources l.cursor
