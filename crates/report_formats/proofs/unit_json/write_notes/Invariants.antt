use Rattle.std.proofs.Common.{◌≡◌, false, map, drop}
use Rattle.format_parts.specs.Pieces.{listed}
use Rattle.report_formats.specs.UnitJson.{related_value}
use Rattle.format_parts.proofs.Steps.{Goes}
use Rattle.report_formats.proofs.unit_json.write_notes.Given as goal

abbrev pub invariant-loop-note : goal.invariant-loop-note
invariant-loop-note g l =
    Goes (listed false (map (related_value l.wording) l.notes)) (g.S.Sink.taken l.initial.sink) (g.S.Sink.taken l.sink) (listed l.is_later (map (related_value l.wording) (drop l.note-index l.notes)))
    × (g.S.Sink.refusals l.sink ≡ g.S.Sink.refusals l.initial.sink)
