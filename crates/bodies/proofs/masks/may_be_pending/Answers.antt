use Rattle.std.proofs.Common.{◌+◌, drop, sym, ◌∙◌}
use Rattle.bodies.proofs.MaskedClasses.{none_tested}
use Rattle.bodies.proofs.masks.may_be_pending.Goals as goal

pub returns-then-place-ge-KEPT : goal.returns-then-place-ge-KEPT
returns-then-place-ge-KEPT c =
    sym (none_tested c.args.group c.args.mask (3 + c.loop-place.place) (drop c.loop-place.place c.args.groups.now)
    c.if-place-ge-KEPT.true)
    ∙ c.loop-place.invariant
