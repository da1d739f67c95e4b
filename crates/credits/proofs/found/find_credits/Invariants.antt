use Rattle.std.proofs.Common.{ℕ, ◌≤◌, length, take}
use Rattle.meaning.specs.BodyEvents.{bodies_of}
use Rattle.meaning.specs.Uses.{Seen}
use Rattle.bodies.specs.Bodies.{TellBodies}
use Rattle.credits.specs.CreditViews.{has}
use Rattle.credits.specs.FoundCredits.{AreFoundBut}
use Rattle.credits.proofs.found.find_credits.Given as goal

-- the credits are found of all literals but those that are left
abbrev pub invariant-loop-left : goal.invariant-loop-left
invariant-loop-left l =
    ((file : ℕ) (seen : Seen) → TellBodies file seen l.bodies
    → AreFoundBut seen (take l.left (bodies_of seen)) (has l.credits))
    × (l.left ≤ length l.bodies)

abbrev pub decreases-loop-left : goal.decreases-loop-left
decreases-loop-left l = l.left
