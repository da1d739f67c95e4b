use Rattle.std.proofs.Common.{◌≡◌, false, map, drop, slice_get}
use Rattle.format_parts.specs.Pieces.{listed}
use Rattle.format_parts.proofs.Steps.{Goes}
use Rattle.sarif.specs.SarifText.{replacement}
use Rattle.sarif.proofs.fixes.write_replacements.Given as goal

abbrev pub invariant-loop-edit : goal.invariant-loop-edit
invariant-loop-edit g l =
    Goes (listed false (map (replacement (slice_get l.sources l.file)) l.edits)) (g.S.Sink.taken l.initial.sink) (g.S.Sink.taken l.sink) (listed l.is_later (map (replacement (slice_get l.sources l.file)) (drop l.edit-index l.edits)))
    × (g.S.Sink.refusals l.sink ≡ g.S.Sink.refusals l.initial.sink)
