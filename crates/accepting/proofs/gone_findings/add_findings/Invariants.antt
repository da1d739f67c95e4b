use Rattle.std.proofs.Common.{◌++◌, List, [], map, take}
use Rattle.accepting.specs.ByBaseline.{Key}
use Rattle.accepting.specs.Findings.{finding_view}
use Rattle.accepting.specs.Gone.{keys_of_findings}
use Rattle.accepting.specs.KeptKeys.{AreLeft}
use Rattle.accepting.proofs.gone_findings.add_findings.Given as goal

-- the findings so far are counted
abbrev pub invariant-loop-finding : goal.invariant-loop-finding
invariant-loop-finding l =
    (run : List Key)
    → AreLeft run [] l.initial.counts
    → AreLeft (run ++ keys_of_findings l.sources (map finding_view (take l.finding-index l.findings))) [] l.counts
