use Rattle.std.proofs.Common.{◌≡◌, drop}
use Rattle.bodies.specs.declared.bits.TheConstants.{FIRST_PENDING}
use Rattle.bodies.specs.Bits.{bit_from}
use Rattle.bodies.proofs.bits.pending_bit.Given as goal

-- the number that is found among the groups that are left is that among all
abbrev pub invariant-loop-other : goal.invariant-loop-other
invariant-loop-other l = bit_from l.bit l.group (drop l.other-index l.groups) ≡ bit_from FIRST_PENDING l.group l.groups
