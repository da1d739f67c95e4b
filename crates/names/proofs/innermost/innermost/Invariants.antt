use Rattle.std.proofs.Common.{◌≤◌, length}
use Rattle.names.specs.Ordered.{IsRun, locals_view}
use Rattle.names.proofs.InnermostOf.{Left}
use Rattle.names.proofs.innermost.innermost.Given as goal

abbrev pub invariant-loop-end : goal.invariant-loop-end
invariant-loop-end l = record {
  is : IsRun (locals_view l.ordered) l.name l.run;
  within : l.end ≤ length l.ordered;
  linked : l.end ≤ length l.links;
  left : Left (locals_view l.ordered) l.name l.run l.at l.end;
}

abbrev pub decreases-loop-end : goal.decreases-loop-end
decreases-loop-end l = l.end
