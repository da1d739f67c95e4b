use Rattle.bodies.proofs.ClassNumbers.{group_inverse}
use Rattle.bodies.proofs.bits.group_bits_are_inverse.Goals as goal

pub returns : goal.returns
returns c = group_inverse
