use Rattle.std.proofs.Common.{◌≡◌, ◌-◌, ◌≤◌, [], false, drop, take, length}
use Rattle.format_parts.specs.Pieces.{listed}
use Rattle.report_json.specs.JsonText.{note_values}
use Rattle.format_parts.proofs.Steps.{Goes}
use Rattle.report_json.proofs.json_report.write_notes.Given as goal

abbrev pub invariant-notes : goal.invariant-notes
invariant-notes g l =
    Goes (listed false (note_values l.wording [] l.notes)) (g.S.Sink.taken l.initial.sink) (g.S.Sink.taken l.sink) (listed l.is_later (note_values l.wording (take l.index l.notes) (drop l.index l.notes)))
    × (g.S.Sink.refusals l.sink ≡ g.S.Sink.refusals l.initial.sink)

abbrev pub decreases-notes : goal.decreases-notes
decreases-notes g l = length l.notes - l.index
