use Rattle.std.proofs.Common.{◌≡◌, ◌++◌, take, flat_map}
use Rattle.report_formats.specs.ReportLines.{note_line}
use Rattle.report_formats.proofs.report_lines.write_notes.Given as goal

abbrev pub invariant-loop-note : goal.invariant-loop-note
invariant-loop-note g l =
    (g.S.Sink.taken l.sink ≡ g.S.Sink.taken l.initial.sink ++ flat_map (note_line l.wording) (take l.note-index l.notes))
    × (g.S.Sink.refusals l.sink ≡ g.S.Sink.refusals l.initial.sink)
