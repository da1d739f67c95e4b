use Rattle.std.proofs.Common.{◌≡◌, ◌≤◌, ◌+◌, length}
use Rattle.report_formats.specs.UnitText.{is_near, lines_of, shown_from}
use Rattle.format_parts.proofs.Steps.{Goes}
use Rattle.report_formats.proofs.unit_text.write_near.Given as goal

-- the lines that are left are counted from this number on
abbrev pub invariant-lines : goal.invariant-lines
invariant-lines g l =
    Goes (shown_from (is_near l.around l.line) 1 (lines_of l.text)) (g.S.Sink.taken l.initial.sink) (g.S.Sink.taken l.sink) (shown_from (is_near l.around l.line) l.number (lines_of l.rest))
    × (g.S.Sink.refusals l.sink ≡ g.S.Sink.refusals l.initial.sink)
    × (l.number + length l.rest ≤ length l.text + 1)

abbrev pub decreases-lines : goal.decreases-lines
decreases-lines g l = length l.rest
