use Rattle.std.proofs.Common.{rules, arith}
use Rattle.bodies.proofs.StateBits.{set_here, set_others}
use Rattle.bodies.proofs.state.State.set_bits.Goals as goal

pub returns : goal.returns
returns c =
    let small = c.requires.small in
    record {
      here = set_here c.args.self.now.words c.args.first c.args.count c.args.bits (omega (arith, small))
          c.requires.in_word c.requires.fits (search rules);
      others = set_others c.args.self.now.words c.args.first c.args.count c.args.bits (omega (arith, small))
          c.requires.in_word c.requires.fits (search rules);
    }
