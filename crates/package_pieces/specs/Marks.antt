-- Marks of claims: whether each is kept.
use Rattle.std.specs.Prelude.{ℕ, ◌↔◌, Bool, false, List, IsTrue, slice_get, unwrap_or}
use Rattle.calls_flags.specs.Claims.{claim_view, IsClaimOf, KeepsClaim}
use Rattle.calls_flags.specs.declared.claims.Claim.{Claim}
use Rattle.meaning.specs.BodyEvents.{Variable}
use Rattle.meaning.specs.Mentions.{BodyPlace}
use Rattle.meaning.specs.Uses.{Callee}
use Rattle.meaning_packages.specs.CallsFlags.{FileWithCredits}
use Rattle.workers.specs.Pieces.{ComeOf}

-- whether that place has a mark, and this says yes
abbrev pub is_marked : List Bool → ℕ → Bool
is_marked marks place = unwrap_or (slice_get marks place) false

-- it says whether the claim is kept, by what is known of functions
abbrev pub IsMark : List FileWithCredits → (Callee → ℕ → Bool) → Claim → Bool → Type 0
IsMark fs calls claim mark =
    (f : FileWithCredits) (b : BodyPlace) (v : Variable)
    → IsClaimOf fs (claim_view claim) f b v
    → IsTrue mark ↔ KeepsClaim fs calls (claim_view claim)

-- one for each of the claims, in their order
abbrev pub AreMarks : List FileWithCredits → (Callee → ℕ → Bool) → List Claim → List Bool → Type 0
AreMarks fs calls claims marks = ComeOf (λ place. IsMark fs calls) 0 claims marks
