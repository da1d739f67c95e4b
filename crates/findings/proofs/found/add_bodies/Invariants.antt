use Rattle.std.proofs.Common.{ℕ, drop}
use Rattle.findings.proofs.FoundParts.{AddsOn}
use Rattle.findings.specs.FoundEntries.{IsEntryOfBodies}
use Rattle.calls_flags.specs.FilesBodies.{TellsWithCredits}
use Rattle.calls_flags.specs.KnownCalls.{known_calls}
use Rattle.meaning.specs.BodyEvents.{bodies_of}
use Rattle.meaning_packages.specs.CallsFlags.{FileWithCredits}
use Rattle.findings.proofs.found.add_bodies.Given as goal

-- what the bodies that are left add to what was added makes it all
abbrev pub invariant-loop-body : goal.invariant-loop-body
invariant-loop-body l =
    (number : ℕ) (f : FileWithCredits) → TellsWithCredits number f l.file
    → AddsOn l.initial.diagnostics.items l.diagnostics.items
    (IsEntryOfBodies (known_calls l.calls) number f (drop l.body-index (bodies_of f.seen)))
    (IsEntryOfBodies (known_calls l.calls) number f (bodies_of f.seen))
