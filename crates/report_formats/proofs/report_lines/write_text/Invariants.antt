use Rattle.std.proofs.Common.{◌≡◌, ◌++◌, flat_map, take}
use Rattle.accepting.specs.Findings.{found_view}
use Rattle.report_formats.specs.ReportLines.{package_text}
use Rattle.report_formats.proofs.report_lines.write_text.Given as goal

abbrev pub invariant-loop-found : goal.invariant-loop-found
invariant-loop-found g l =
    (g.S.Sink.taken l.sink ≡ g.S.Sink.taken l.initial.sink ++ flat_map (λ p. package_text l.style (found_view p)) (take l.found-index l.packages))
    × (g.S.Sink.refusals l.sink ≡ g.S.Sink.refusals l.initial.sink)
