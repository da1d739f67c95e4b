use Rattle.std.proofs.Common.{◌≡◌, ◌++◌, flat_map, take}
use Rattle.report_formats.proofs.KeepingLines.{behind_comma}
use Rattle.report_formats.proofs.report_lines.write_more.Given as goal

abbrev pub invariant-loop-name : goal.invariant-loop-name
invariant-loop-name g l =
    (g.S.Sink.taken l.sink ≡ g.S.Sink.taken l.initial.sink ++ flat_map behind_comma (take l.name-index l.names))
    × (g.S.Sink.refusals l.sink ≡ g.S.Sink.refusals l.initial.sink)
