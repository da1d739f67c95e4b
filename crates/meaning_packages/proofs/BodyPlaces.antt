-- Bodies in the order of their places: they are the same bodies, and none comes after one that begins behind it.
use Rattle.std.proofs.Common.{◌≡◌, ◌≤◌, ◌<◌, Bool, true, false, inl, inr, List, [], ◌∷◌, Contains, refl, subst, arith}
use Rattle.std.specs.Prelude.{if◌then◌else◌, nat_le}
use Rattle.std.specs.List.{AllPairs}
use Rattle.std.proofs.lemmas.Bool.{leb-true, leb-false}
use Rattle.std.proofs.lemmas.List.Elements.{All-contains_itself, All-weaker}
use Rattle.std.proofs.lemmas.List.Kept.{AllPairs-cons}
use Rattle.meaning.specs.Mentions.{BodyPlace}
use Rattle.meaning.specs.BodyEvents.{put_body, by_place}
use Rattle.meaning.proofs.Membership.{contains_nil, contains_here, contains_there, contains_cases}

-- One body put in

put_there : (b : BodyPlace) (cs : List BodyPlace) (x : BodyPlace) → Contains (b ∷ cs) x → Contains (put_body b cs) x
put_there b [] x h = h
put_there b (c ∷ cs) x h = by (nat_le b.at c.at) (put_there b cs x)
  where
    by : (t : Bool) → (Contains (b ∷ cs) x → Contains (put_body b cs) x)
        → Contains (if t then b ∷ c ∷ cs else c ∷ put_body b cs) x
    by true go = h
    by false go = elim (contains_cases b x (c ∷ cs) h) [
      | inl q ↦ contains_there c x (put_body b cs) (go (subst (λ y. Contains (b ∷ cs) y) q (contains_here b cs)))
      | inr r ↦ elim (contains_cases c x cs r) [
        | inl q ↦ subst (λ y. Contains (c ∷ put_body b cs) y) q (contains_here c (put_body b cs))
        | inr s ↦ contains_there c x (put_body b cs) (go (contains_there b x cs s))
      ]
    ]

put_only : (b : BodyPlace) (cs : List BodyPlace) (x : BodyPlace) → Contains (put_body b cs) x → Contains (b ∷ cs) x
put_only b [] x h = h
put_only b (c ∷ cs) x h = by (nat_le b.at c.at) h (put_only b cs x)
  where
    by : (t : Bool) → Contains (if t then b ∷ c ∷ cs else c ∷ put_body b cs) x
        → (Contains (put_body b cs) x → Contains (b ∷ cs) x)
        → Contains (b ∷ c ∷ cs) x
    by true k go = k
    by false k go = elim (contains_cases c x (put_body b cs) k) [
      | inl q ↦ contains_there b x (c ∷ cs) (subst (λ y. Contains (c ∷ cs) y) q (contains_here c cs))
      | inr r ↦ elim (contains_cases b x cs (go r)) [
        | inl q ↦ subst (λ y. Contains (b ∷ c ∷ cs) y) q (contains_here b (c ∷ cs))
        | inr s ↦ contains_there b x (c ∷ cs) (contains_there c x cs s)
      ]
    ]

-- All of them

pub placed_there : (bs : List BodyPlace) (x : BodyPlace) → Contains bs x → Contains (by_place bs) x
placed_there [] x h = h
placed_there (b ∷ bs) x h = put_there b (by_place bs) x (elim (contains_cases b x bs h) [
  | inl q ↦ subst (λ y. Contains (b ∷ by_place bs) y) q (contains_here b (by_place bs))
  | inr r ↦ contains_there b x (by_place bs) (placed_there bs x r)
])

pub placed_only : (bs : List BodyPlace) (x : BodyPlace) → Contains (by_place bs) x → Contains bs x
placed_only [] x h = h
placed_only (b ∷ bs) x h = elim (contains_cases b x (by_place bs) (put_only b (by_place bs) x h)) [
  | inl q ↦ subst (λ y. Contains (b ∷ bs) y) q (contains_here b bs)
  | inr r ↦ contains_there b x bs (placed_only bs x r)
]

-- The order

abbrev pub IsNotBehind : BodyPlace → BodyPlace → Type 0
IsNotBehind b c = b.at ≤ c.at

-- the order by recursion on the list
abbrev pub AreInPlace : List BodyPlace → Type 0
AreInPlace [] = Unit {0}
AreInPlace (b ∷ bs) = ((c : BodyPlace) → Contains bs c → b.at ≤ c.at) × AreInPlace bs

put_in_place : (b : BodyPlace) (cs : List BodyPlace) → AreInPlace cs → AreInPlace (put_body b cs)
put_in_place b [] h = (λ c k. absurd (contains_nil c k), tt)
put_in_place b (c ∷ cs) h = by (nat_le b.at c.at) (leb-true b.at c.at) (leb-false b.at c.at) (put_in_place b cs h.1)
  where
    by : (t : Bool) → (t ≡ true → b.at ≤ c.at) → (t ≡ false → c.at < b.at) → AreInPlace (put_body b cs)
        → AreInPlace (if t then b ∷ c ∷ cs else c ∷ put_body b cs)
    by true low high go = (
      λ x k. elim (contains_cases c x cs k) [
        | inl q ↦ subst (λ (y : BodyPlace). b.at ≤ y.at) q (low refl)
        | inr r ↦ let first = low refl in let next = h.0 x r in omega (arith, first, next)
      ],
      h,
    )
    by false low high go = (
      λ x k. elim (contains_cases b x cs (put_only b cs x k)) [
        | inl q ↦ subst (λ (y : BodyPlace). c.at ≤ y.at) q (let l = high refl in omega (arith, l))
        | inr r ↦ h.0 x r
      ],
      go,
    )

pub are_in_place : (bs : List BodyPlace) → AreInPlace (by_place bs)
are_in_place [] = tt
are_in_place (b ∷ bs) = put_in_place b (by_place bs) (are_in_place bs)

pairs_of : (bs : List BodyPlace) → AreInPlace bs → AllPairs IsNotBehind bs
pairs_of [] h = λ i j d l k. absurd (omega (arith, k))
pairs_of (b ∷ bs) h =
    AllPairs-cons IsNotBehind b bs (All-weaker (Contains bs) (IsNotBehind b) h.0 bs (All-contains_itself bs)) (pairs_of bs h.1)

pub are_ordered : (bs : List BodyPlace) → AllPairs IsNotBehind (by_place bs)
are_ordered bs = pairs_of (by_place bs) (are_in_place bs)
