use Rattle.std.proofs.Common.{sym, ◌∙◌, le-ltb, arith}
use Rattle.bodies.proofs.MaskedClasses.{no_high_bit}
use Rattle.bodies.proofs.masks.is_set.Goals as goal

pub returns-else-bit-lt16 : goal.returns-else-bit-lt16
returns-else-bit-lt16 c =
    le-ltb c.args.bit 16 c.if-bit-lt16.false
    ∙ sym (no_high_bit c.args.mask c.args.bit (omega arith) c.if-bit-lt16.false)
