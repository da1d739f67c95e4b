use Rattle.std.proofs.Common.{◌≡◌, ◌-◌, [], drop, length, map, take}
use Rattle.accepting.specs.Findings.{finding_view}
use Rattle.report_json.specs.Causes.{count_from}
use Rattle.report_json.proofs.causes.count_from.Given as goal

abbrev pub invariant-findings : goal.invariant-findings
invariant-findings l =
    count_from l.style l.count (map finding_view (take l.index l.findings)) (map finding_view (drop l.index l.findings))
    ≡ count_from l.style l.fn.count [] (map finding_view l.findings)

abbrev pub decreases-findings : goal.decreases-findings
decreases-findings l = length l.findings - l.index
