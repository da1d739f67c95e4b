use Rattle.std.proofs.Common.{[], take}
use Rattle.accepting.specs.ByBaseline.{baseline_keys}
use Rattle.accepting.specs.KeptKeys.{AreLeft}
use Rattle.accepting.proofs.baseline.baseline_counts.Given as goal

-- the findings so far are counted
abbrev pub invariant-loop-finding : goal.invariant-loop-finding
invariant-loop-finding l = AreLeft (baseline_keys (take l.finding-index l.baseline)) [] l.counts
