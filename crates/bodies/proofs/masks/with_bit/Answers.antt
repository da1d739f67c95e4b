use Rattle.bodies.proofs.MaskImages.{bit_set, set_below}
use Rattle.bodies.proofs.masks.with_bit.Goals as goal

pub returns : goal.returns
returns c = record {
  below = λ count l. set_below c.args.mask c.args.bit count c.requires.within l;
  bits = λ other. bit_set c.args.mask c.args.bit other c.requires.within;
}
