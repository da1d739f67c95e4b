use Rattle.bodies.proofs.SweptColumns.{SweptSoFar}
use Rattle.bodies.specs.JoinedStates.{work}
use Rattle.bodies.proofs.sweep.states_at_nodes.Given as goal

-- what is set is carried there, and each node that is not left is followed
abbrev pub invariant-loop-sweep : goal.invariant-loop-sweep
invariant-loop-sweep g l = SweptSoFar (g.P.Promises.promises l.promises) l.variables l.entry.words l.graph l.sweep

-- each turn follows a node, or a state grew
abbrev pub decreases-loop-sweep : goal.decreases-loop-sweep
decreases-loop-sweep g l = work l.sweep
