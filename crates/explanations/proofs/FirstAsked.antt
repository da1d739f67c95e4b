-- The first of some uses that is just this one has the reason of this one.
use Rattle.std.proofs.Common.{◌≡◌, ℕ, suc, ◌+◌, ◌==◌, Bool, true, false, if◌then◌else◌, inl, inr, List, [], ◌∷◌, map, Contains, Option, Some, refl, sym, ap, ◌∙◌, arith}
use Rattle.std.specs.Prelude.{slice_get}
use Rattle.std.proofs.lemmas.Bool.{and_from, and_parts, eq-eqb, eqb-true, false≢true}
use Rattle.explanations.specs.KeptUses.{if_there, is_same_of, is_same_use, place_from, reason_at}
use Rattle.explanations.specs.Uses.{Asked}
use Rattle.meaning.proofs.Membership.{contains_nil, contains_cases}
use Rattle.use_reasons.specs.UseReasons.{AskedOf, of_cancel, of_group, of_binding, UseReason}

same_of : (a b : AskedOf) → is_same_of a b ≡ true → a ≡ b
same_of of_cancel of_cancel e = refl
same_of of_cancel of_group e = absurd (false≢true e)
same_of of_cancel of_binding e = absurd (false≢true e)
same_of of_group of_cancel e = absurd (false≢true e)
same_of of_group of_group e = refl
same_of of_group of_binding e = absurd (false≢true e)
same_of of_binding of_cancel e = absurd (false≢true e)
same_of of_binding of_group e = absurd (false≢true e)
same_of of_binding of_binding e = refl

of_itself : (a : AskedOf) → is_same_of a a ≡ true
of_itself of_cancel = refl
of_itself of_group = refl
of_itself of_binding = refl

same_use : (u v : Asked) → is_same_use u v ≡ true → u ≡ v
same_use u v e =
    let both = and_parts (u.at == v.at) (is_same_of u.of v.of) e in
    let at = eqb-true u.at v.at both.0 in
    let of = same_of u.of v.of both.1 in
    λ i. record { at = at i; of = of i }

-- a use is the same as itself
same_itself : (u : Asked) → is_same_use u u ≡ true
same_itself u = and_from (u.at == u.at) (is_same_of u.of u.of) (eq-eqb u.at u.at refl) (of_itself u.of)

module _ (f : Asked → Option UseReason) (u : Asked) where
  found_from : (n : ℕ) (us : List Asked) → Contains us u
      → (k : ℕ) × (place_from u n us ≡ Some (n + k)) × (slice_get (map f us) k ≡ Some (f u))
  found_from n [] h = absurd (contains_nil u h)
  found_from n (v ∷ vs) h = by (is_same_use v u) refl (λ later. found_from (n + 1) vs later)
    where
      by : (b : Bool) → is_same_use v u ≡ b
          → (Contains vs u
          → (k : ℕ) × (place_from u (n + 1) vs ≡ Some ((n + 1) + k)) × (slice_get (map f vs) k ≡ Some (f u)))
          → (k : ℕ) × (place_from u n (v ∷ vs) ≡ Some (n + k)) × (slice_get (map f (v ∷ vs)) k ≡ Some (f u))
      by true e rest =
          let same : n ≡ n + 0 = omega arith in
          (0, ap (λ c. if c then Some n else place_from u (n + 1) vs) e ∙ ap Some same, ap (λ w. Some (f w)) (same_use v u e))
      by false e rest = elim (contains_cases v u vs h) [
        | inl is ↦ absurd (false≢true (sym e ∙ (ap (λ w. is_same_use w u) is ∙ same_itself u)))
        | inr later ↦
            let w = rest later in
            let same : (n + 1) + w.0 ≡ n + suc w.0 = omega arith in
            (suc w.0, ap (λ c. if c then Some n else place_from u (n + 1) vs) e ∙ (w.1 ∙ ap Some same), w.2)
      ]

  pub found : (us : List Asked) → Contains us u → reason_at (place_from u 0 us) (map f us) ≡ f u
  found us h =
      let w = found_from 0 us h in
      let same : 0 + w.0 ≡ w.0 = omega arith in
      ap (λ o. reason_at o (map f us)) (w.1 ∙ ap Some same) ∙ ap if_there w.2
