use Rattle.std.proofs.Common.{◌≤◌, ℕ, Bool, List, length, map, drop}
use Rattle.calls_flags.specs.Claims.{claim_view, AreClaims, KeepsClaim}
use Rattle.calls_flags.proofs.KeptClaims.{SievesOn}
use Rattle.meaning.specs.Uses.{Callee}
use Rattle.meaning_packages.specs.CallsFlags.{FileWithCredits}
use Rattle.package_pieces.specs.Marks.{AreMarks}
use Rattle.package_pieces.proofs.claims.marked.Given as goal

-- what was kept, with what is kept of the claims that are left, is what is kept of all
abbrev pub invariant-loop-place : goal.invariant-loop-place
invariant-loop-place l =
    (length l.kept.items ≤ l.place)
    × ((fs : List FileWithCredits) (calls : Callee → ℕ → Bool) → AreClaims fs (map claim_view l.claims)
    → AreMarks fs calls l.claims l.marks
    → SievesOn (KeepsClaim fs calls) (map claim_view (drop l.place l.claims)) (map claim_view l.claims)
    (map claim_view l.kept.items))
