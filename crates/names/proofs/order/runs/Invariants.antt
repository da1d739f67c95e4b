use Rattle.names.specs.Answers.{at_name}
use Rattle.names.specs.Ordered.{locals_view}
use Rattle.names.proofs.LocalRuns.{RunsSoFar, Starts}
use Rattle.names.proofs.order.runs.Given as goal

abbrev pub invariant-loop-index : goal.invariant-loop-index
invariant-loop-index l = record {
  starts : Starts (locals_view l.ordered) l.index l.start;
  runs : RunsSoFar (locals_view l.ordered) l.index (at_name l.runs);
}
