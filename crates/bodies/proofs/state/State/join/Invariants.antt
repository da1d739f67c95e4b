use Rattle.bodies.proofs.StateBits.{JoinsSoFar}
use Rattle.bodies.proofs.state.State.join.Given as goal

-- the words so far are joined, and the others as they were
abbrev pub invariant-loop-place : goal.invariant-loop-place
invariant-loop-place l = JoinsSoFar l.initial.self.words l.other.words l.self.words l.place l.grows
