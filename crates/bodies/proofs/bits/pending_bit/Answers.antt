use Rattle.std.proofs.Common.{drop, sym, ◌∙◌}
use Rattle.bodies.proofs.ClassNumbers.{none_past}
use Rattle.bodies.proofs.bits.pending_bit.Goals as goal

pub returns-then-bit-ge-KEPT : goal.returns-then-bit-ge-KEPT
returns-then-bit-ge-KEPT c =
    sym (none_past c.loop-other.bit c.args.group (drop c.loop-other.other-index c.args.groups.now) c.if-bit-ge-KEPT.true)
    ∙ c.loop-other.invariant
