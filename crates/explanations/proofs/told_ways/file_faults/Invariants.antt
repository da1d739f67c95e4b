use Rattle.std.proofs.Common.{ℕ, [], drop, map}
use Rattle.body_ways.specs.ToldViews.{told_fault_view}
use Rattle.calls_flags.specs.FilesBodies.{TellsWithCredits}
use Rattle.calls_flags.specs.KnownCalls.{known_calls}
use Rattle.explanations.proofs.ToldBodies.{AddsOn}
use Rattle.meaning.specs.BodyEvents.{bodies_of}
use Rattle.meaning_packages.specs.CallsFlags.{FileWithCredits}
use Rattle.explanations.proofs.told_ways.file_faults.Given as goal

-- what the bodies that are left add to what was added makes it all
abbrev pub invariant-loop-body : goal.invariant-loop-body
invariant-loop-body l =
    (number : ℕ) (f : FileWithCredits) → TellsWithCredits number f l.file
    → AddsOn (known_calls l.calls) f [] (map told_fault_view l.faults.items)
    (drop l.body-index (bodies_of f.seen)) (bodies_of f.seen)
