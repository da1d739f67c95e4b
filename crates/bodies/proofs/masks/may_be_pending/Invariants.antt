use Rattle.std.proofs.Common.{◌≡◌, ◌+◌, drop}
use Rattle.bodies.specs.declared.bits.TheConstants.{FIRST_PENDING}
use Rattle.bodies.specs.MaskTests.{may_be_pending}
use Rattle.bodies.proofs.masks.may_be_pending.Given as goal

-- the test of those that are left is that of all
abbrev pub invariant-loop-place : goal.invariant-loop-place
invariant-loop-place l =
    may_be_pending l.group l.mask (FIRST_PENDING + l.place) (drop l.place l.groups)
    ≡ may_be_pending l.group l.mask FIRST_PENDING l.groups
