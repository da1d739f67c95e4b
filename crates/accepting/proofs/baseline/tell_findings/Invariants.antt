use Rattle.std.proofs.Common.{◌≤◌, List, length, map}
use Rattle.std.specs.Vec.Iter.{into_iter_items}
use Rattle.accepting.specs.ByBaseline.{Key}
use Rattle.accepting.specs.Findings.{finding_view}
use Rattle.accepting.specs.KeptKeys.{AreLeft, most}
use Rattle.accepting.proofs.ToldByBaseline.{FindingsGoOn}
use Rattle.accepting.proofs.baseline.tell_findings.Given as goal

-- what is told of those that are left completes what is told of all
abbrev pub invariant-loop-finding : goal.invariant-loop-finding
invariant-loop-finding l =
    (known before : List Key)
    → length known ≤ most
    → AreLeft known before l.initial.counts
    → FindingsGoOn known before l.sources (map finding_view l.fn.findings.items)
    (map finding_view (into_iter_items l.finding-iterator)) (map finding_view l.told.items) l.counts
