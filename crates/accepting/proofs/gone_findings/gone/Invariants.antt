use Rattle.std.proofs.Common.{map}
use Rattle.accepting.specs.Findings.{found_view}
use Rattle.accepting.specs.Gone.{keys_of_run}
use Rattle.accepting.proofs.GoneFindings.{GoneSoFar}
use Rattle.accepting.proofs.gone_findings.gone.Given as goal

-- what is gone of the findings so far, with what is gone of those that are left, is gone of all
abbrev pub invariant-loop-finding : goal.invariant-loop-finding
invariant-loop-finding l =
    GoneSoFar (keys_of_run (map found_view l.found)) l.baseline l.finding-index l.count l.counts
