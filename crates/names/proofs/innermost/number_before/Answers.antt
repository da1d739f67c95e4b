use Rattle.std.proofs.Common.{arith}
use Rattle.names.proofs.KeptLocals.{kept-begun, kept-later, middle_below}
use Rattle.names.proofs.innermost.number_before.Goals as goal

pub loop-low-preserved-then-ordered-middle : goal.loop-low-preserved-then-ordered-middle
loop-low-preserved-then-ordered-middle c =
    let below = middle_below c.loop-low.low c.loop-low.high c.loop-low-test.true in
    record {
      from = omega arith;
      in_order = omega arith;
      within = c.loop-low.invariant.within;
      begun = kept-begun _ _ _ _ _ c.requires.ordered (omega arith) (omega arith) c.if-ordered-middle.true;
      later = c.loop-low.invariant.later;
    }

pub loop-low-preserved : goal.loop-low-preserved
loop-low-preserved c =
    let below = middle_below c.loop-low.low c.loop-low.high c.loop-low-test.true in
    record {
      from = c.loop-low.invariant.from;
      in_order = omega arith;
      within = omega arith;
      begun = c.loop-low.invariant.begun;
      later = kept-later _ _ _ _ _ c.requires.ordered (omega arith) (omega arith) c.if-ordered-middle.false;
    }
