use Rattle.bodies.specs.Bits.{cancel_class}
use Rattle.certificates.proofs.masks.cancel_mask.Given as goal
use Rattle.certificates.specs.Rows.{passes, HasBits}

-- the bits so far
abbrev pub invariant-loop-bit : goal.invariant-loop-bit
invariant-loop-bit g l =
    HasBits l.bit (λ bit. passes (g.A.Arrivals.cancels l.arrivals l.variable l.node) (cancel_class l.groups bit)) l.mask
