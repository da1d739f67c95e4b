use Rattle.std.proofs.Common.{◌≡◌, drop, map}
use Rattle.std.specs.List.{list_all}
use Rattle.accepting.specs.Findings.{finding_view, is_accepted}
use Rattle.accepting.proofs.verdicts.are_accepted.Given as goal

-- the test of those that are left is that of all
abbrev pub invariant-loop-finding : goal.invariant-loop-finding
invariant-loop-finding l =
    list_all is_accepted (map finding_view (drop l.finding-index l.findings))
    ≡ list_all is_accepted (map finding_view l.findings)
