use Rattle.std.proofs.Common.{arith, subst, sym, ◌∙◌, ◌<◌}
use Rattle.bodies.proofs.MaskImages.{none_yet, passed, taken}
use Rattle.bodies.proofs.images.image_of.Goals as goal
use Rattle.bodies.proofs.images.image_of.Goals.{then-is_set, else-is_set}

pub loop-bit-init : goal.loop-bit-init
loop-bit-init g c = none_yet _ _ _

pub loop-bit-preserved : goal.loop-bit-preserved
loop-bit-preserved g c =
    let count = c.args.count in
    let step = g.S.Step.step c.args.steps.now in
    let mask = c.args.mask in
    let image = c.loop-bit.image in
    let bit = c.loop-bit.bit in
    elim c.if-is_set.branch [
      | then-is_set w ↦
          rw w.image-is
          (taken count step mask image bit c.loop-bit.invariant _ w.step.result
          (sym c.is_set.ensures ∙ w.if-is_set.true)
          w.step.ensures (w.with_bit-image.ensures.below count (subst (λ n. n < count) (sym w.step.ensures)
          (c.requires.stays bit c.loop-bit-test.true))) w.with_bit-image.ensures.bits)
      | else-is_set w ↦
          rw w.image-is
          (passed count step mask image bit c.loop-bit.invariant (sym c.is_set.ensures ∙ w.if-is_set.false))
    ]

pub returns : goal.returns
returns g c =
    let done = c.loop-bit-test.false in
    let end = c.loop-bit.auto.bit-end in
    record {
      below = c.loop-bit.invariant.below;
      image = λ to l. (
        λ e.
            let w = (c.loop-bit.invariant.tells to).0 e in
            let small = w.1 in
            (w.0, omega (arith, small, end), w.2, w.3),
        λ w.
            let small = w.1 in
            (c.loop-bit.invariant.tells to).1 (w.0, omega (arith, small, done), w.2, w.3),
      );
    }
