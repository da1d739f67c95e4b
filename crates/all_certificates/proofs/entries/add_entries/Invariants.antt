use Rattle.std.proofs.Common.{ℕ, drop, map}
use Rattle.all_certificates.proofs.AddedEntries.{AddsOn}
use Rattle.all_certificates.specs.CertifiedBodies.{AreOfBody}
use Rattle.bodies.specs.Bodies.{TellBodies}
use Rattle.calls_flags.specs.KnownCalls.{known_calls}
use Rattle.certificate_json.specs.Certificates.{body_of}
use Rattle.credits.specs.CreditViews.{has}
use Rattle.events.specs.ToldViews.{TellsFile}
use Rattle.meaning.specs.BodyEvents.{bodies_of}
use Rattle.meaning.specs.Uses.{Seen}
use Rattle.all_certificates.proofs.entries.add_entries.Given as goal

-- what was added, with the certificates of the bodies that are left, makes those of all
abbrev pub invariant-loop-body : goal.invariant-loop-body
invariant-loop-body l =
    (number : ℕ) (seen : Seen) → TellsFile seen l.grounds.told.now → TellBodies number seen l.bodies
    → AddsOn (AreOfBody (known_calls l.grounds.calls) (has l.grounds.credits.now) number seen) (bodies_of seen)
    (drop l.body-index (bodies_of seen)) (map body_of l.initial.entries.items) (map body_of l.entries.items)
