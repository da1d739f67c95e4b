use Rattle.std.proofs.Common.{[], map, take}
use Rattle.accepting.specs.Findings.{found_view}
use Rattle.accepting.specs.Gone.{keys_of_run}
use Rattle.accepting.specs.KeptKeys.{AreLeft}
use Rattle.accepting.proofs.gone_findings.run_counts.Given as goal

-- the findings of the packages so far are counted
abbrev pub invariant-loop-one : goal.invariant-loop-one
invariant-loop-one l = AreLeft (keys_of_run (map found_view (take l.one-index l.found))) [] l.counts
