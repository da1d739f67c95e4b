use Rattle.std.proofs.Common.{◌≤◌, List, length, map, drop}
use Rattle.calls_flags.specs.Claims.{claim_view, AreClaims, KeepsClaim}
use Rattle.calls_flags.specs.KnownCalls.{known_calls}
use Rattle.calls_flags.specs.FilesBodies.{TellAll}
use Rattle.meaning_packages.specs.CallsFlags.{FileWithCredits}
use Rattle.calls_flags.proofs.KeptClaims.{SievesOn}
use Rattle.calls_flags.proofs.rounds.kept_by_paths.Given as goal

-- what was kept, with what is kept of the claims that are left, is what is kept of all
abbrev pub invariant-loop-claim : goal.invariant-loop-claim
invariant-loop-claim l =
    (length l.kept.items ≤ l.claim-index)
    × ((fs : List FileWithCredits) → TellAll fs l.files → AreClaims fs (map claim_view l.claims)
    → SievesOn (KeepsClaim fs (known_calls l.calls)) (map claim_view (drop l.claim-index l.claims))
    (map claim_view l.claims) (map claim_view l.kept.items))
