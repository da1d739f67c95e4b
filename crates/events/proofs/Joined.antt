-- Sightings of one body as one.
use Rattle.std.proofs.Common.{◌≡◌, ℕ, ◌≤◌, nat_le, Bool, true, false, true≢false, ◌⊎◌, inl, inr, ◌||◌, if◌then◌else◌, List, [], ◌∷◌, ◌++◌, Option, Some, None, refl, sym, ap, ◌∙◌, arith}
use Rattle.std.specs.Prelude.{◌==◌}
use Rattle.std.proofs.lemmas.Bool.Decides.{leb_tells}
use Rattle.events.specs.declared.sightings.Sighting.{Sighting}
use Rattle.events.specs.VariableViews.{joined, both, merged_of}
use Rattle.meaning.specs.BodyEvents.{lesser}

lesser_first : (m n : ℕ) → m ≤ n → lesser m n ≡ m
lesser_first m n h = by (nat_le m n) refl
  where
    by : (b : Bool) → nat_le m n ≡ b → (if b then m else n) ≡ m
    by true e = refl
    by false e = elim (leb_tells m n) [ inl c ↦ absurd (true≢false (sym c.0 ∙ e)) | inr c ↦ absurd (omega (arith, h, c.1)) ]

lesser_second : (m n : ℕ) → n ≤ m → lesser m n ≡ n
lesser_second m n h = by (nat_le m n) refl
  where
    by : (b : Bool) → nat_le m n ≡ b → (if b then m else n) ≡ n
    by true e = elim (leb_tells m n) [ inl c ↦ omega (arith, h, c.1) | inr c ↦ absurd (true≢false (sym e ∙ c.0)) ]
    by false e = refl

at_most : (m n : ℕ) → (m ≤ n) ⊎ (n ≤ m)
at_most m n = elim (leb_tells m n) [ inl c ↦ inl c.1 | inr c ↦ inr (omega (arith, c.1)) ]

pub lesser-itself : (n : ℕ) → lesser n n ≡ n
lesser-itself n = lesser_first n n (omega arith)

lesser-assoc : (a b c : ℕ) → lesser (lesser a b) c ≡ lesser a (lesser b c)
lesser-assoc a b c =
    elim (at_most a b) [
      | inl h ↦ elim (at_most b c) [
        | inl k ↦ ap (λ n. lesser n c) (lesser_first a b h) ∙ lesser_first a c (omega (arith, h, k)) ∙ sym (ap (lesser a) (lesser_first b c k) ∙ lesser_first a b h)
        | inr k ↦ ap (λ n. lesser n c) (lesser_first a b h) ∙ sym (ap (lesser a) (lesser_second b c k))
      ]
      | inr h ↦ elim (at_most b c) [
        | inl k ↦ ap (λ n. lesser n c) (lesser_second a b h) ∙ lesser_first b c k ∙ sym (ap (lesser a) (lesser_first b c k) ∙ lesser_second a b h)
        | inr k ↦ ap (λ n. lesser n c) (lesser_second a b h) ∙ lesser_second b c k ∙ sym (ap (lesser a) (lesser_second b c k) ∙ lesser_second a c (omega (arith, h, k)))
      ]
    ]

or-assoc : (a b c : Bool) → ((a || b) || c) ≡ (a || (b || c))
or-assoc true b c = refl
or-assoc false b c = refl

joined-assoc : (r s t : Sighting) → joined (joined r s) t ≡ joined r (joined s t)
joined-assoc r s t = λ i. record {
  body = r.body;
  first = lesser-assoc r.first s.first t.first i;
  is_captured = or-assoc r.is_captured s.is_captured t.is_captured i;
}

pub both-none : (o : Option Sighting) → both o None ≡ o
both-none None = refl
both-none (Some s) = refl

pub both-assoc : (a b c : Option Sighting) → both (both a b) c ≡ both a (both b c)
both-assoc None b c = refl
both-assoc (Some r) None c = refl
both-assoc (Some r) (Some s) None = refl
both-assoc (Some r) (Some s) (Some t) = ap Some (joined-assoc r s t)

one_before : (t : Bool) (s : Sighting) (all some others : Option Sighting) → all ≡ both some others
    → (if t then both (Some s) all else all) ≡ both (if t then both (Some s) some else some) others
one_before true s all some others e = ap (both (Some s)) e ∙ sym (both-assoc (Some s) some others)
one_before false s all some others e = e

pub merged-append : (body : ℕ) (ss ts : List Sighting)
    → merged_of body (ss ++ ts) ≡ both (merged_of body ss) (merged_of body ts)
merged-append body [] ts = refl
merged-append body (s ∷ ss) ts = one_before (s.body == body) s _ _ _ (merged-append body ss ts)
