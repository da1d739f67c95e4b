use Rattle.std.proofs.Common.{◌≡◌, false, drop, map, slice_get}
use Rattle.report.specs.Cursors.{IsAt}
use Rattle.report.specs.ReportText.{bytes_of}
use Rattle.format_parts.specs.Objects.{whole}
use Rattle.format_parts.specs.Pieces.{listed}
use Rattle.format_parts.proofs.Steps.{Goes}
use Rattle.report_json.specs.WayLines.{lines_from}
use Rattle.report_json.proofs.way_lines.write_each.Given as goal

abbrev pub invariant-loop-offset : goal.invariant-loop-offset
invariant-loop-offset g l =
    Goes (listed false (map whole (lines_from (bytes_of (slice_get l.sources l.file)) 0 l.offsets))) (g.S.Sink.taken l.initial.sink) (g.S.Sink.taken l.sink) (listed l.is_later (map whole (lines_from (bytes_of (slice_get l.sources l.file)) l.last (drop l.offset-index l.offsets))))
    × (g.S.Sink.refusals l.sink ≡ g.S.Sink.refusals l.initial.sink)
    × IsAt l.sources l.cursor
