use Rattle.std.proofs.Common.{List, [], drop}
use Rattle.findings.proofs.FoundParts.{AddsOn, IsFoundFrom}
use Rattle.calls_flags.specs.KnownCalls.{known_calls}
use Rattle.calls_flags.specs.FilesBodies.{TellAll}
use Rattle.meaning_packages.specs.CallsFlags.{FileWithCredits}
use Rattle.findings.proofs.found.find_faults.Given as goal

-- what the files that are left add to what was added makes it all
abbrev pub invariant-loop-number : goal.invariant-loop-number
invariant-loop-number l =
    (fs : List FileWithCredits) → TellAll fs l.files
    → AddsOn [] l.diagnostics.items (IsFoundFrom (known_calls l.calls) l.number (drop l.number fs))
    (IsFoundFrom (known_calls l.calls) 0 fs)
