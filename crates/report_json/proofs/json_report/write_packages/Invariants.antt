use Rattle.std.proofs.Common.{◌≡◌, false, map, drop}
use Rattle.accepting.specs.Findings.{found_view}
use Rattle.format_parts.specs.Pieces.{listed}
use Rattle.report_json.specs.JsonText.{package_values}
use Rattle.format_parts.proofs.Steps.{Goes}
use Rattle.report_json.proofs.json_report.write_packages.Given as goal

abbrev pub invariant-loop-package : goal.invariant-loop-package
invariant-loop-package g l =
    Goes (listed false (package_values l.style l.fixes 0 (map found_view l.packages))) (g.S.Sink.taken l.initial.sink) (g.S.Sink.taken l.sink) (listed l.is_later (package_values l.style l.fixes l.count (map found_view (drop l.package-index l.packages))))
    × (g.S.Sink.refusals l.sink ≡ g.S.Sink.refusals l.initial.sink)
