use Rattle.std.proofs.Common.{List, map, take}
use Rattle.calls_flags.specs.FilesBodies.{TellAll}
use Rattle.called_parameters.specs.Called.{is_called}
use Rattle.calls_flags.specs.KnownCalls.{known_calls}
use Rattle.meaning_packages.specs.CallsFlags.{FileWithCredits}
use Rattle.verifier.specs.GivenViews.{TellsGiven}
use Rattle.verifier.specs.SaidEntries.{AreSaid}
use Rattle.verifier.specs.Verified.{Given}
use Rattle.verifier.proofs.said.find_said.Given as goal

-- all is said of the files before the number
abbrev pub invariant-loop-number : goal.invariant-loop-number
invariant-loop-number l =
    (fs : List FileWithCredits) → TellAll fs l.files → (g : Given) → TellsGiven g l.given
    → AreSaid g (is_called l.calls.own.now) (known_calls l.calls)
    (take l.number (map (λ (f : FileWithCredits). f.seen) fs)) l.diagnostics.items
