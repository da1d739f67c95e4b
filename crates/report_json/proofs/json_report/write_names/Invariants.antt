use Rattle.std.proofs.Common.{◌≡◌, false, map, drop}
use Rattle.report.specs.Entries.{texts_of}
use Rattle.serde_json.specs.Data.{string}
use Rattle.format_parts.specs.Pieces.{listed}
use Rattle.report_json.proofs.JsonPieces.{name_value}
use Rattle.format_parts.proofs.Steps.{Goes}
use Rattle.report_json.proofs.json_report.write_names.Given as goal

abbrev pub invariant-loop-name : goal.invariant-loop-name
invariant-loop-name g l =
    Goes (listed false (map string (texts_of l.names))) (g.S.Sink.taken l.initial.sink) (g.S.Sink.taken l.sink) (listed l.is_later (map name_value (drop l.name-index l.names)))
    × (g.S.Sink.refusals l.sink ≡ g.S.Sink.refusals l.initial.sink)
