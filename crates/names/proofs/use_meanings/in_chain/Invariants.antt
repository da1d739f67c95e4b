use Rattle.std.proofs.Common.{◌≡◌}
use Rattle.names.specs.UseMeanings.{in_chain}
use Rattle.names.proofs.use_meanings.in_chain.Given as goal

-- the whole chain says what the chain from that number on says
abbrev pub invariant-loop-number : goal.invariant-loop-number
invariant-loop-number l = in_chain l.first l.uses l.first l.at ≡ in_chain l.number l.uses l.number l.at

abbrev pub decreases-loop-number : goal.decreases-loop-number
decreases-loop-number l = l.number
