-- Bodies in the order of their places: what stands before one of them, and behind it.
use Rattle.std.proofs.Common.{◌≡◌, ℕ, ◌+◌, ◌≤◌, ◌⊎◌, inl, inr, Bool, true, false, if◌then◌else◌, List, [], ◌∷◌, ◌++◌, take, drop, Contains, Some, None, nat_le, refl, sym, ap, ◌∙◌, subst, arith}
use Rattle.std.specs.Prelude.{◌==◌, ⊤, slice_get}
use Rattle.std.proofs.lemmas.Bool.{leb-true, leb-false}
use Rattle.std.proofs.lemmas.Bool.Decides.{Decides-eqb}
use Rattle.std.proofs.lemmas.List.{take-append-drop, drop_more}
use Rattle.std.proofs.lemmas.Option.{none-some, get_or_from_slice_get, slice_get_within}
use Rattle.meaning.proofs.Membership.{contains_nil, contains_here, contains_there, contains_cases}
use Rattle.meaning.specs.Mentions.{BodyPlace}
use Rattle.meaning.specs.Uses.{Seen}
use Rattle.meaning.specs.BodyEvents.{put_body, by_place, opened_in, bodies_of}
use Rattle.meaning_packages.specs.Credits.{body_at}

-- none of these stands before the offset
abbrev NoneBefore : ℕ → List BodyPlace → Type 0
NoneBefore at bs = (b : BodyPlace) → Contains bs b → at ≤ b.at

-- each stands at or behind those before it
abbrev Ascends : List BodyPlace → Type 0
Ascends [] = ⊤
Ascends (b ∷ bs) = NoneBefore b.at bs × Ascends bs

put_cases : (b : BodyPlace) (bs : List BodyPlace) (x : BodyPlace) → Contains (put_body b bs) x → (b ≡ x) ⊎ Contains bs x
put_cases b [] x h = contains_cases b x [] h
put_cases b (c ∷ cs) x h = by (nat_le b.at c.at) (put_cases b cs x) h
  where
    by : (t : Bool) → (Contains (put_body b cs) x → (b ≡ x) ⊎ Contains cs x)
        → Contains (if t then b ∷ c ∷ cs else c ∷ put_body b cs) x → (b ≡ x) ⊎ Contains (c ∷ cs) x
    by true rest g = contains_cases b x (c ∷ cs) g
    by false rest g = elim (contains_cases c x (put_body b cs) g) [
      | inl same ↦ inr (subst (Contains (c ∷ cs)) same (contains_here c cs))
      | inr later ↦ elim (rest later) [
        | inl it ↦ inl it
        | inr old ↦ inr (contains_there c x cs old)
      ]
    ]

put_ascends : (b : BodyPlace) (bs : List BodyPlace) → Ascends bs → Ascends (put_body b bs)
put_ascends b [] h = (λ x is. absurd (contains_nil x is), tt)
put_ascends b (c ∷ cs) h = by (nat_le b.at c.at) refl (put_ascends b cs h.1)
  where
    by : (t : Bool) → nat_le b.at c.at ≡ t → Ascends (put_body b cs)
        → Ascends (if t then b ∷ c ∷ cs else c ∷ put_body b cs)
    by true e rest = (
      λ x is.
          let first = leb-true b.at c.at e in
          elim (contains_cases c x cs is) [
            | inl same ↦ subst (λ (y : BodyPlace). b.at ≤ y.at) same first
            | inr later ↦ let l = h.0 x later in omega (arith, first, l)
          ],
      h,
    )
    by false e rest = (
      λ x is. elim (put_cases b cs x is) [
        | inl same ↦ subst (λ (y : BodyPlace). c.at ≤ y.at) same (let l = leb-false b.at c.at e in omega (arith, l))
        | inr old ↦ h.0 x old
      ],
      rest,
    )

ascend : (bs : List BodyPlace) → Ascends (by_place bs)
ascend [] = tt
ascend (b ∷ bs) = put_ascends b (by_place bs) (ascend bs)

none_before : (before : List BodyPlace) (b : BodyPlace) (behind : List BodyPlace) → Ascends (before ++ b ∷ behind)
    → NoneBefore b.at behind
none_before [] b behind h = h.0
none_before (c ∷ cs) b behind h = none_before cs b behind h.1

-- The first at an offset

pub at_its_offset : (at : ℕ) (bs : List BodyPlace) (b : BodyPlace) → body_at at bs ≡ Some b → b.at ≡ at
at_its_offset at [] b e = cc
at_its_offset at (x ∷ bs) b e = by (x.at == at) (Decides-eqb x.at at).0 (at_its_offset at bs b) e
  where
    by : (t : Bool) → (t ≡ true → x.at ≡ at) → (body_at at bs ≡ Some b → b.at ≡ at)
        → (if t then Some x else body_at at bs) ≡ Some b → b.at ≡ at
    by true same rest is = let it : x ≡ b = cc in ap (λ y. y.at) (sym it) ∙ same refl
    by false same rest is = rest is

is_one : (at : ℕ) (bs : List BodyPlace) (b : BodyPlace) → body_at at bs ≡ Some b → Contains bs b
is_one at [] b e = cc
is_one at (x ∷ bs) b e = by (x.at == at) (is_one at bs b) e
  where
    by : (t : Bool) → (body_at at bs ≡ Some b → Contains bs b)
        → (if t then Some x else body_at at bs) ≡ Some b → Contains (x ∷ bs) b
    by true rest is = let it : x ≡ b = cc in subst (Contains (x ∷ bs)) it (contains_here x bs)
    by false rest is = contains_there x b bs (rest is)

past_those : (at : ℕ) (before bs : List BodyPlace) → body_at at before ≡ None → body_at at (before ++ bs) ≡ body_at at bs
past_those at [] bs none = refl
past_those at (x ∷ xs) bs none = by (x.at == at) (past_those at xs bs) none
  where
    by : (t : Bool) → (body_at at xs ≡ None → body_at at (xs ++ bs) ≡ body_at at bs)
        → (if t then Some x else body_at at xs) ≡ None
        → (if t then Some x else body_at at (xs ++ bs)) ≡ body_at at bs
    by true rest e = absurd (none-some x (sym e))
    by false rest e = rest e

here_first : (b : BodyPlace) (bs : List BodyPlace) → body_at b.at (b ∷ bs) ≡ Some b
here_first b bs = ap (λ t. if t then Some b else body_at b.at bs) ((Decides-eqb b.at b.at).1 refl)

-- none is there, with one more that is not there either
pub none_of_more : (at : ℕ) (before : List BodyPlace) (b : BodyPlace) → (b.at == at) ≡ false → body_at at before ≡ None
    → body_at at (before ++ b ∷ []) ≡ None
none_of_more at before b apart none =
    past_those at before (b ∷ []) none ∙ ap (λ t. if t then Some b else None) apart

-- The bodies of a file

module _ (seen : Seen) (i : ℕ) (b : BodyPlace) (is_there : slice_get (bodies_of seen) i ≡ Some b) where
  parts : bodies_of seen ≡ take i (bodies_of seen) ++ b ∷ drop (i + 1) (bodies_of seen)
  parts =
      sym (take-append-drop i (bodies_of seen))
      ∙ ap (λ bs. take i (bodies_of seen) ++ bs)
      (drop_more (bodies_of seen) i b (slice_get_within (bodies_of seen) i b is_there)
      ∙ ap (λ x. x ∷ drop (i + 1) (bodies_of seen)) (get_or_from_slice_get (bodies_of seen) i b b is_there))

  -- it is the first at its offset, if none before it stands there
  pub is_first : body_at b.at (take i (bodies_of seen)) ≡ None → body_at b.at (bodies_of seen) ≡ Some b
  is_first none =
      ap (body_at b.at) parts
      ∙ past_those b.at (take i (bodies_of seen)) (b ∷ drop (i + 1) (bodies_of seen)) none
      ∙ here_first b (drop (i + 1) (bodies_of seen))

  -- where one stands of which none stands before this one, it stands at or behind it
  pub is_behind : (at : ℕ) (x : BodyPlace) → body_at at (take i (bodies_of seen)) ≡ None
      → body_at at (bodies_of seen) ≡ Some x
      → b.at ≤ at
  is_behind at x none there =
      let rest = drop (i + 1) (bodies_of seen) in
      let here : body_at at (b ∷ rest) ≡ Some x =
      sym (past_those at (take i (bodies_of seen)) (b ∷ rest) none) ∙ ap (body_at at) (sym parts) ∙ there in
      let same = at_its_offset at (b ∷ rest) x here in
      let above = none_before (take i (bodies_of seen)) b rest (subst Ascends parts (ascend (opened_in seen.marks))) in
      subst (λ n. b.at ≤ n) same (elim (contains_cases b x rest (is_one at (b ∷ rest) x here)) [
        | inl it ↦ subst (λ (y : BodyPlace). b.at ≤ y.at) it (omega arith)
        | inr later ↦ above x later
      ])
