use Rattle.bodies.proofs.ClassNumbers.{cancel_inverse}
use Rattle.bodies.proofs.bits.cancel_bits_are_inverse.Goals as goal

pub returns : goal.returns
returns c = cancel_inverse
