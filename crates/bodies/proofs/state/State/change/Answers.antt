use Rattle.bodies.proofs.MaskImages.{changes}
use Rattle.bodies.proofs.state.State.change.Goals as goal

pub returns : goal.returns
returns g c =
    changes c.args.first c.args.count (g.S.Step.step c.args.steps.now) c.args.self.now.words _ _ _
    c.bits_from-before.ensures c.image_of-after.ensures.image c.set_bits.ensures
