use Rattle.std.proofs.Common.{ℕ, drop}
use Rattle.bodies.specs.Bodies.{TellBodies}
use Rattle.calls_flags.specs.KnownCalls.{known_calls}
use Rattle.credits.specs.CreditViews.{has}
use Rattle.events.specs.ToldViews.{TellsFile}
use Rattle.findings.proofs.FoundParts.{AddsOn}
use Rattle.meaning.specs.BodyEvents.{bodies_of}
use Rattle.meaning.specs.Uses.{Seen}
use Rattle.verifier.specs.FoundBodies.{with_table}
use Rattle.verifier.specs.SaidEntries.{IsUseOrPassIn}
use Rattle.verifier.proofs.said.add_bodies.Given as goal

-- what the bodies that are left add to what was added makes it all
abbrev pub invariant-loop-body : goal.invariant-loop-body
invariant-loop-body l =
    (number : ℕ) (seen : Seen) → TellsFile seen l.grounds.told.now → TellBodies number seen l.bodies
    → AddsOn l.initial.diagnostics.items l.diagnostics.items
    (IsUseOrPassIn (known_calls l.grounds.calls) number (with_table seen (has l.credits))
    (drop l.body-index (bodies_of seen)))
    (IsUseOrPassIn (known_calls l.grounds.calls) number (with_table seen (has l.credits)) (bodies_of seen))
