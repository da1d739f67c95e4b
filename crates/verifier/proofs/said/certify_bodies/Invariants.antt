use Rattle.std.proofs.Common.{ℕ, ◌≤◌, length}
use Rattle.bodies.specs.Bodies.{TellBodies}
use Rattle.called_parameters.specs.Called.{is_called}
use Rattle.calls_flags.specs.KnownCalls.{known_calls}
use Rattle.credits.specs.CreditViews.{has}
use Rattle.events.specs.ToldViews.{TellsFile}
use Rattle.meaning.specs.Uses.{Seen}
use Rattle.verifier.specs.FoundBodies.{AreFoundBut}
use Rattle.verifier.specs.GivenViews.{TellsGiven}
use Rattle.verifier.specs.Verified.{Given}
use Rattle.verifier.proofs.said.certify_bodies.Given as goal

-- the certificates are looked at of all bodies but those that are left
abbrev pub invariant-loop-left : goal.invariant-loop-left
invariant-loop-left l =
    ((number : ℕ) (seen : Seen) → TellsFile seen l.grounds.told.now → TellBodies number seen l.bodies
    → (g : Given) → TellsGiven g l.grounds.given.now
    → AreFoundBut g (is_called l.grounds.calls.own.now) (known_calls l.grounds.calls) number seen l.left (has l.credits)
    l.initial.diagnostics.items l.diagnostics.items)
    × (l.left ≤ length l.bodies)

abbrev pub decreases-loop-left : goal.decreases-loop-left
decreases-loop-left l = l.left
