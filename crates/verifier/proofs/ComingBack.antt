-- Which claims are left whose functions come back, claim by claim.
use Rattle.std.proofs.Common.{◌≡◌, ℕ, ◌+◌, ◌<◌, Bool, List, [], ◌∷◌, ◌++◌, drop, length, get_or, map, IsTrue, sym, ap, ◌∙◌, subst}
use Rattle.std.specs.Prelude.{◌↔◌}
use Rattle.std.proofs.lemmas.List.{map-append}
use Rattle.calls_flags.proofs.KeptClaims.{SievesOn, keeps_next, drops_next, drop_one}
use Rattle.calls_flags.specs.Claims.{claim_view, AreClaims, IsClaimOf, IsOneOf, ComesBackThere}
use Rattle.calls_flags.specs.declared.claims.Claim.{Claim as KeptClaim}
use Rattle.meaning.proofs.Membership.{contains_map}
use Rattle.meaning.specs.BodyEvents.{Variable}
use Rattle.meaning.specs.Mentions.{BodyPlace}
use Rattle.meaning_packages.specs.CallsFlags.{FileWithCredits}
use Rattle.verifier.specs.BelievedClaims.{ComesBackOf}

module _ (fs : List FileWithCredits) (claims : List KeptClaim) (i : ℕ) (within : i < length claims) (item : KeptClaim)
    (is : item ≡ get_or claims i item) (are : AreClaims fs (map claim_view claims)) (comes : Bool)
    (comes_so : (f : FileWithCredits) (b : BodyPlace) (v : Variable) → IsClaimOf fs (claim_view item) f b v
    → IsTrue comes ↔ ComesBackThere f.seen f.credits b v) where
  one : IsOneOf fs (claim_view item)
  one = are.each (claim_view item) (contains_map claim_view claims item (i, within, sym is))

  next_left : map claim_view (drop i claims) ≡ claim_view item ∷ map claim_view (drop (i + 1) claims)
  next_left = ap (map claim_view) (drop_one claims i item within is)

  abbrev pub LeftOn : ℕ → List KeptClaim → Type 0
  LeftOn n so_far =
      SievesOn (ComesBackOf fs) (map claim_view (drop n claims)) (map claim_view claims) (map claim_view so_far)

  pub next_back : IsTrue comes → (so_far next : List KeptClaim) → next ≡ so_far ++ item ∷ [] → LeftOn i so_far
      → LeftOn (i + 1) next
  next_back sure so_far next is_next on =
      keeps_next (ComesBackOf fs) (claim_view item) (map claim_view (drop (i + 1) claims)) (map claim_view (drop i claims))
      (map claim_view claims) (map claim_view so_far) (map claim_view next) next_left
      (record {
        file = one.file;
        body = one.body;
        variable = one.variable;
        is_claim = one.is_claim;
        comes_back = (comes_so one.file one.body one.variable one.is_claim).0 sure;
      })
      (ap (map claim_view) is_next ∙ map-append claim_view so_far (item ∷ [])) on

  pub next_gone : (IsTrue comes → ⊥) → (so_far next : List KeptClaim) → next ≡ so_far → LeftOn i so_far
      → LeftOn (i + 1) next
  next_gone none so_far next is_next on =
      subst (λ cs. LeftOn (i + 1) cs) (sym is_next)
      (drops_next (ComesBackOf fs) (claim_view item) (map claim_view (drop (i + 1) claims)) (map claim_view (drop i claims))
      (map claim_view claims) (map claim_view so_far) (map claim_view so_far) next_left
      (λ kept. none ((comes_so kept.file kept.body kept.variable kept.is_claim).1 kept.comes_back)) on)
