use Rattle.std.proofs.Common.{◌-◌, ◌≤◌}
use Rattle.names.specs.Before.{AllBegun, NoneBegun}
use Rattle.names.specs.Ordered.{locals_view}
use Rattle.names.proofs.innermost.number_before.Given as goal

abbrev pub invariant-loop-low : goal.invariant-loop-low
invariant-loop-low l = record {
  from : l.fn.run.start ≤ l.low;
  in_order : l.low ≤ l.high;
  within : l.high ≤ l.fn.run.end;
  begun : AllBegun (locals_view l.ordered) l.fn.run.start l.low l.at;
  later : NoneBegun (locals_view l.ordered) l.high l.fn.run.end l.at;
}

abbrev pub decreases-loop-low : goal.decreases-loop-low
decreases-loop-low l = l.high - l.low
