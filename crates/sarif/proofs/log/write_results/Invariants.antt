use Rattle.std.proofs.Common.{◌≡◌, false, flat_map, drop}
use Rattle.format_parts.specs.Pieces.{listed}
use Rattle.sarif.proofs.SarifPieces.{results_of}
use Rattle.format_parts.proofs.Steps.{Goes}
use Rattle.sarif.proofs.log.write_results.Given as goal

abbrev pub invariant-loop-package : goal.invariant-loop-package
invariant-loop-package g l =
    Goes (listed false (flat_map (results_of l.style l.fixes) l.packages)) (g.S.Sink.taken l.initial.sink) (g.S.Sink.taken l.sink) (listed l.is_later (flat_map (results_of l.style l.fixes) (drop l.package-index l.packages)))
    × (g.S.Sink.refusals l.sink ≡ g.S.Sink.refusals l.initial.sink)
