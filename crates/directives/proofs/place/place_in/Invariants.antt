use Rattle.std.proofs.Common.{◌≤◌, ◌-◌, length}
use Rattle.directives.proofs.Places.{IsPassed}
use Rattle.directives.proofs.place.place_in.Given as goal

-- no directive stands in what was passed
abbrev pub invariant-places : goal.invariant-places
invariant-places l = (l.passed ≤ length l.line) × IsPassed l.line l.passed

abbrev pub decreases-places : goal.decreases-places
decreases-places l = length l.line - l.passed
