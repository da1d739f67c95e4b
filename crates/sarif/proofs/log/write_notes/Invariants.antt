use Rattle.std.proofs.Common.{◌≡◌, false, map, drop}
use Rattle.format_parts.specs.Pieces.{listed}
use Rattle.sarif.specs.SarifText.{told_note}
use Rattle.format_parts.proofs.Steps.{Goes}
use Rattle.sarif.proofs.log.write_notes.Given as goal

abbrev pub invariant-loop-note : goal.invariant-loop-note
invariant-loop-note g l =
    Goes (listed false (map (told_note l.wording l.are_steps) l.notes)) (g.S.Sink.taken l.initial.sink) (g.S.Sink.taken l.sink) (listed l.is_later (map (told_note l.wording l.are_steps) (drop l.note-index l.notes)))
    × (g.S.Sink.refusals l.sink ≡ g.S.Sink.refusals l.initial.sink)
