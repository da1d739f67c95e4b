use Rattle.std.proofs.Common.{◌≡◌, map, drop}
use Rattle.format_parts.specs.Pieces.{listed}
use Rattle.sarif.specs.Pieces.{IsAtPlace}
use Rattle.sarif.proofs.SarifPieces.{result_data}
use Rattle.format_parts.proofs.Steps.{Goes}
use Rattle.sarif.proofs.log.write_package_results.Given as goal

abbrev pub invariant-loop-finding : goal.invariant-loop-finding
invariant-loop-finding g l =
    Goes (listed l.others_before (map (result_data l.style l.fixes l.sources) l.findings)) (g.S.Sink.taken l.initial.sink) (g.S.Sink.taken l.sink) (listed l.is_later (map (result_data l.style l.fixes l.sources) (drop l.finding-index l.findings)))
    × (g.S.Sink.refusals l.sink ≡ g.S.Sink.refusals l.initial.sink)
    × IsAtPlace l.sources l.cursor
