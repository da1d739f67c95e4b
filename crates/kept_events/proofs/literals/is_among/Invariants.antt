use Rattle.std.proofs.Common.{◌≡◌, drop}
use Rattle.kept_events.specs.KeptEventViews.{is_among}
use Rattle.kept_events.proofs.literals.is_among.Given as goal

-- what is told of those that are left is told of all
abbrev pub invariant-loop-other : goal.invariant-loop-other
invariant-loop-other l = is_among (drop l.other-index l.numbers) l.number ≡ is_among l.numbers l.number
