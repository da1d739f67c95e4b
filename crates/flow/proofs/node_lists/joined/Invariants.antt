use Rattle.std.proofs.Common.{◌≡◌, ◌++◌, drop}
use Rattle.flow.proofs.node_lists.joined.Given as goal

-- what was added, with what is left, is the whole
abbrev pub invariant-loop-node : goal.invariant-loop-node
invariant-loop-node l = l.first.items ++ drop l.node-index l.second ≡ l.initial.first.items ++ l.second
