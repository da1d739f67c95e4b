use Rattle.std.proofs.Common.{◌≡◌, ◌++◌}
use Rattle.explanations.proofs.told_ways.add_all.Given as goal

-- what was added, with what is left, is the whole
abbrev pub invariant-loop-fault : goal.invariant-loop-fault
invariant-loop-fault l =
    l.faults.items ++ l.fault-iterator.rest.items ≡ l.initial.faults.items ++ l.fn.more.items
