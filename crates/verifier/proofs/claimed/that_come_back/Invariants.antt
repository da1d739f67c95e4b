use Rattle.std.proofs.Common.{List, map, drop}
use Rattle.calls_flags.specs.Claims.{claim_view, AreClaims}
use Rattle.calls_flags.specs.FilesBodies.{TellAll}
use Rattle.calls_flags.proofs.KeptClaims.{SievesOn}
use Rattle.meaning_packages.specs.CallsFlags.{FileWithCredits}
use Rattle.verifier.specs.BelievedClaims.{ComesBackOf}
use Rattle.verifier.proofs.claimed.that_come_back.Given as goal

-- what was left, with what is left of the claims to come, is what is left of all
abbrev pub invariant-loop-claim : goal.invariant-loop-claim
invariant-loop-claim l =
    (fs : List FileWithCredits) → TellAll fs l.files → AreClaims fs (map claim_view l.claims)
    → SievesOn (ComesBackOf fs) (map claim_view (drop l.claim-index l.claims)) (map claim_view l.claims)
    (map claim_view l.kept.items)
