use Rattle.std.proofs.Common.{◌≡◌, drop}
use Rattle.calls_flags.specs.HandedOn.{body_hands}
use Rattle.calls_flags.proofs.handed_on.body_hands.Given as goal

-- the test of those that are left is that of all
abbrev pub invariant-loop-event : goal.invariant-loop-event
invariant-loop-event l = body_hands l.path (drop l.event-index l.events) ≡ body_hands l.path l.events
