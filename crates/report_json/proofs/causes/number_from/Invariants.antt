use Rattle.std.proofs.Common.{◌≡◌, ◌-◌, [], drop, length, map, take}
use Rattle.accepting.specs.Findings.{finding_view}
use Rattle.report_json.specs.Causes.{number_from}
use Rattle.report_json.proofs.causes.number_from.Given as goal

abbrev pub invariant-findings : goal.invariant-findings
invariant-findings l =
    number_from l.style l.count (map finding_view (take l.index l.findings)) (map finding_view (drop l.index l.findings)) (finding_view l.finding)
    ≡ number_from l.style l.fn.count [] (map finding_view l.findings) (finding_view l.finding)

abbrev pub decreases-findings : goal.decreases-findings
decreases-findings l = length l.findings - l.index
