use Rattle.std.proofs.Common.{◌≡◌, drop, map}
use Rattle.accepting.specs.ByLines.{has_whole_fault}
use Rattle.accepting.specs.Findings.{finding_view}
use Rattle.accepting.proofs.lines.has_whole_fault.Given as goal

-- what is to be said of those that are left is to be said of all
abbrev pub invariant-loop-finding : goal.invariant-loop-finding
invariant-loop-finding l =
    has_whole_fault (map finding_view (drop l.finding-index l.findings)) ≡ has_whole_fault (map finding_view l.findings)
