use Rattle.bodies.specs.Bits.{group_class}
use Rattle.certificates.proofs.masks.group_mask.Given as goal
use Rattle.certificates.specs.Rows.{passes, HasBits}

-- the bits so far
abbrev pub invariant-loop-bit : goal.invariant-loop-bit
invariant-loop-bit g l =
    HasBits l.bit (λ bit. passes (g.A.Arrivals.groups l.arrivals l.variable l.node) (group_class bit)) l.mask
