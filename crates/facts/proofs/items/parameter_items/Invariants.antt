use Rattle.facts.proofs.Gathered.{AreGathered}
use Rattle.facts.proofs.items.parameter_items.Given as goal

abbrev pub invariant-loop-start : goal.invariant-loop-start
invariant-loop-start l = AreGathered l.items.items l.next l.params l.start

abbrev pub decreases-loop-start : goal.decreases-loop-start
decreases-loop-start l = l.start
