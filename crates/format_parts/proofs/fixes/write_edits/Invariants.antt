use Rattle.std.proofs.Common.{◌≡◌, false, map, drop}
use Rattle.format_parts.specs.Fixes.{edit_value}
use Rattle.format_parts.specs.Pieces.{listed}
use Rattle.format_parts.proofs.Steps.{Goes}
use Rattle.format_parts.proofs.fixes.write_edits.Given as goal

abbrev pub invariant-loop-edit : goal.invariant-loop-edit
invariant-loop-edit g l =
    Goes (listed false (map (edit_value l.file) l.edits)) (g.S.Sink.taken l.initial.sink) (g.S.Sink.taken l.sink) (listed l.is_later (map (edit_value l.file) (drop l.edit-index l.edits)))
    × (g.S.Sink.refusals l.sink ≡ g.S.Sink.refusals l.initial.sink)
