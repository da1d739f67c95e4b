use Rattle.std.specs.List.{AllByRecursion}
use Rattle.workers.specs.Outcomes.{IsOutcomeIn}
use Rattle.workers.proofs.shares.share_of.Given as goal

abbrev pub invariant-loop : goal.invariant-loop
invariant-loop g l = AllByRecursion (IsOutcomeIn (g.W.Work.is_outcome l.work) l.queue.items.now) l.share.items
