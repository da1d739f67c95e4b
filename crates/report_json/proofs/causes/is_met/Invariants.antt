use Rattle.std.proofs.Common.{◌≡◌, drop, map}
use Rattle.std.specs.List.{list_any}
use Rattle.accepting.specs.Findings.{finding_view}
use Rattle.report_json.specs.Causes.{is_same_binding}
use Rattle.report_json.proofs.causes.is_met.Given as goal

abbrev pub invariant-loop-other : goal.invariant-loop-other
invariant-loop-other l =
    list_any (is_same_binding l.style (finding_view l.finding)) (map finding_view (drop l.other-index l.before))
    ≡ list_any (is_same_binding l.style (finding_view l.finding)) (map finding_view l.before)
