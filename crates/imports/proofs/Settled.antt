-- What is known of the packages while they are settled, and that each step keeps it.
use Rattle.std.proofs.Common.{◌≡◌, ℕ, zero, suc, ◌+◌, ◌<◌, ◌≤◌, Bool, true, false, cond, if◌then◌else◌, ◌⊎◌, inl, inr, List, [], ◌∷◌, ◌++◌, length, get_or, set, replicate, Contains, Option, Some, None, refl, ap, ◌∙◌, sym, subst, arith, true≢false}
use Rattle.std.specs.Prelude.{slice_get, is_none, count_by}
use Rattle.std.proofs.lemmas.Bool.{cases_eq, cases_lt}
use Rattle.std.proofs.lemmas.List.{length-set, get_or-set_same, get_or-set_other, get_or_past, get_or_default, length-replicate, get_or-replicate, length_push}
use Rattle.std.proofs.lemmas.List.Elements.{Contains-append_left, Contains-push}
use Rattle.std.proofs.lemmas.List.Sums.{sum_by-set, sum_by-cons}
use Rattle.std.proofs.lemmas.Option.{same_Some, none-some, slice_get_within, slice_get-get_or}
use Rattle.imports.specs.Settling.{Ranking, is_unranked, left_of, begun, ranked_next, waits_for, settled_with, settled, settled_all, released, served_by}
use Rattle.imports.proofs.Membership.{contains_nil, contains_here, contains_there, contains_cases, get_pushed, get_kept, get_cases}

abbrev pub row : List (List ℕ) → ℕ → List ℕ
row rows i = get_or rows i []

abbrev pub rank_at : List (Option ℕ) → ℕ → Option ℕ
rank_at ranks i = get_or ranks i None

abbrev pub IsRanked : List (Option ℕ) → ℕ → Type 0
IsRanked ranks i = (r : ℕ) × (rank_at ranks i ≡ Some r)

-- what is imported is in the list
pub record Bounded (given : List (List ℕ)) : Type 0 where
  pub below : (i j : ℕ) → Contains (row given i) j → j < length given

-- what holds whatever waits
pub record Keeps (given : List (List ℕ)) (s : Ranking) : Type 0 where
  pub ranks : length s.ranks ≡ length given
  pub pending : length s.pending ≡ length given
  pub waiting : length s.waiting ≡ length given
  pub counted : length s.ranked + count_by is_none s.ranks ≡ length given
  pub to_place : (i r : ℕ) → rank_at s.ranks i ≡ Some r → slice_get s.ranked r ≡ Some i
  pub from_place : (i r : ℕ) → slice_get s.ranked r ≡ Some i → rank_at s.ranks i ≡ Some r
  pub left : (i j : ℕ) → Contains (row given i) j → IsRanked s.ranks j ⊎ Contains (row s.pending i) j
  pub within : (i j : ℕ) → Contains (row s.pending i) j → Contains (row given i) j
  pub before : (i j r : ℕ) → Contains (row given i) j → rank_at s.ranks i ≡ Some r → (q : ℕ) × (rank_at s.ranks j ≡ Some q) × (q < r)

-- a package has a rank, or is to be settled, or waits for an import whose rank was not served yet: those below `k` were
pub data Attended (given : List (List ℕ)) (k : ℕ) (T : ℕ → Type 0) (s : Ranking) (i : ℕ) : Type 0 where
  has_rank : IsRanked s.ranks i → Attended given k T s i
  to_settle : T i → Attended given k T s i
  waits : (j : ℕ)
      → Contains (row given i) j
      → Contains (row s.waiting j) i
      → ((r : ℕ) → rank_at s.ranks j ≡ Some r → k ≤ r)
      → Attended given k T s i

abbrev pub Attends : List (List ℕ) → ℕ → (ℕ → Type 0) → Ranking → Type 0
Attends given k T s = (i : ℕ) → i < length given → Attended given k T s i

-- while those of T are settled
pub record Going (given : List (List ℕ)) (k : ℕ) (T : ℕ → Type 0) (s : Ranking) : Type 0 where
  pub keeps : Keeps given s
  pub served : k ≤ length s.ranked
  pub attends : Attends given k T s

-- between two ranks
pub record Turned (given : List (List ℕ)) (k : ℕ) (s : Ranking) : Type 0 where
  pub keeps : Keeps given s
  pub attends : Attends given k (λ _. ⊥) s

-- Ranks

module _ (ranks : List (Option ℕ)) (i : ℕ) where
  none_by : (o : Option ℕ) → is_none o ≡ true → o ≡ None
  none_by None e = refl
  none_by (Some r) e = absurd (true≢false (sym e))

  some_by : (o : Option ℕ) → is_none o ≡ false → (r : ℕ) × (o ≡ Some r)
  some_by None e = absurd (true≢false e)
  some_by (Some r) e = (r, refl)

  pub unranked_there : is_unranked ranks i ≡ true → i < length ranks
  unranked_there e =
      elim (cases_lt i (length ranks)) [
        | inl l ↦ l
        | inr past ↦ absurd (none-some 0 (sym (none_by _ e) ∙ get_or_past ranks i (Some 0) past))
      ]

  pub unranked_none : is_unranked ranks i ≡ true → rank_at ranks i ≡ None
  unranked_none e = get_or_default ranks i None (Some 0) (unranked_there e) ∙ none_by _ e

  pub ranked_some : is_unranked ranks i ≡ false → i < length ranks → IsRanked ranks i
  ranked_some e l =
      let w = some_by (get_or ranks i (Some 0)) e in (w.0, get_or_default ranks i None (Some 0) l ∙ w.1)

-- What is left of imports

module _ (ranks : List (Option ℕ)) where
  keeps_by : (y j : ℕ) (js : List ℕ) (b : Bool)
      → is_unranked ranks y ≡ b
      → (Contains js j → (is_unranked ranks j ≡ false) ⊎ Contains (left_of ranks js) j)
      → (y ≡ j) ⊎ Contains js j
      → (is_unranked ranks j ≡ false) ⊎ Contains (if b then y ∷ js else left_of ranks js) j
  keeps_by y j js true e later (inl p) = inr (subst (λ k. Contains (y ∷ js) k) p (contains_here y js))
  keeps_by y j js true e later (inr h) = inr (contains_there y j js h)
  keeps_by y j js false e later (inl p) = inl (ap (is_unranked ranks) (sym p) ∙ e)
  keeps_by y j js false e later (inr h) = later h

  pub left_keeps : (js : List ℕ) (j : ℕ)
      → Contains js j
      → (is_unranked ranks j ≡ false) ⊎ Contains (left_of ranks js) j
  left_keeps [] j h = inr h
  left_keeps (y ∷ js) j h = keeps_by y j js (is_unranked ranks y) refl (left_keeps js j) (contains_cases y j js h)

  within_by : (y j : ℕ) (js : List ℕ) (b : Bool)
      → (Contains (left_of ranks js) j → Contains js j)
      → Contains (if b then y ∷ js else left_of ranks js) j
      → Contains (y ∷ js) j
  within_by y j js true later h = h
  within_by y j js false later h = contains_there y j js (later h)

  pub left_within : (js : List ℕ) (j : ℕ) → Contains (left_of ranks js) j → Contains js j
  left_within [] j h = h
  left_within (y ∷ js) j h = within_by y j js (is_unranked ranks y) (left_within js j) h

  first_by : (y j : ℕ) (js rest : List ℕ) (b : Bool)
      → is_unranked ranks y ≡ b
      → (left_of ranks js ≡ j ∷ rest → is_unranked ranks j ≡ true)
      → (if b then y ∷ js else left_of ranks js) ≡ j ∷ rest
      → is_unranked ranks j ≡ true
  first_by y j js rest true e later h = let same : y ≡ j = cc in ap (is_unranked ranks) (sym same) ∙ e
  first_by y j js rest false e later h = later h

  pub left_first : (js : List ℕ) (j : ℕ) (rest : List ℕ) → left_of ranks js ≡ j ∷ rest → is_unranked ranks j ≡ true
  left_first [] j rest h = cc
  left_first (y ∷ js) j rest h = first_by y j js rest (is_unranked ranks y) refl (left_first js j rest) h

-- The next rank

module _ (given : List (List ℕ)) (s : Ranking) (i : ℕ) (h : Keeps given s) (unranked : is_unranked s.ranks i ≡ true) where
  abbrev next : ℕ
  next = length s.ranked

  new_there : rank_at (ranked_next i s).ranks i ≡ Some next
  new_there = get_or-set_same s.ranks i (Some next) None (unranked_there s.ranks i unranked)

  new_other : (k : ℕ) → (k ≡ i → ⊥) → rank_at (ranked_next i s).ranks k ≡ rank_at s.ranks k
  new_other k d = get_or-set_other s.ranks i k (Some next) None d

  pub new_rank : IsRanked (ranked_next i s).ranks i
  new_rank = (next, new_there)

  new_cases : (k r : ℕ) → rank_at (ranked_next i s).ranks k ≡ Some r → ((k ≡ i) × (next ≡ r)) ⊎ (rank_at s.ranks k ≡ Some r)
  new_cases k r e =
      elim (cases_eq k i) [
        | inl p ↦ inl (p, same_Some next r (sym new_there ∙ ap (rank_at (ranked_next i s).ranks) (sym p) ∙ e))
        | inr d ↦ inr (sym (new_other k d) ∙ e)
      ]

  new_keeps : (k r : ℕ) → rank_at s.ranks k ≡ Some r → rank_at (ranked_next i s).ranks k ≡ Some r
  new_keeps k r e =
      elim (cases_eq k i) [
        | inl p ↦ absurd (none-some r (sym (unranked_none s.ranks i unranked) ∙ ap (rank_at s.ranks) (sym p) ∙ e))
        | inr d ↦ new_other k d ∙ e
      ]

  pub still_ranked : (k : ℕ) → IsRanked s.ranks k → IsRanked (ranked_next i s).ranks k
  still_ranked k w = (w.0, new_keeps k w.0 w.1)

  -- the new rank is above those that were served
  pub still_late : (k j : ℕ)
      → k ≤ next
      → ((r : ℕ) → rank_at s.ranks j ≡ Some r → k ≤ r)
      → (r : ℕ)
      → rank_at (ranked_next i s).ranks j ≡ Some r
      → k ≤ r
  still_late k j l c r e =
      elim (new_cases j r e) [
        | inl p ↦ let same : next ≡ r = p.1 in omega arith
        | inr old ↦ c r old
      ]

  counts : length (ranked_next i s).ranked + count_by is_none (ranked_next i s).ranks ≡ length given
  counts =
      let was : cond {A = ℕ} (is_none (get_or s.ranks i (Some 0))) 1 0 ≡ 1 = ap (λ (b : Bool). cond {A = ℕ} b 1 0) unranked in
      let all : count_by is_none (set s.ranks i (Some next)) + cond {A = ℕ} (is_none (get_or s.ranks i (Some 0))) 1 0
      ≡ count_by is_none s.ranks + 0 =
      sum_by-set (λ (o : Option ℕ). cond (is_none o) 1 0) s.ranks i (Some next) (Some 0) (unranked_there s.ranks i unranked) in
      let more : length (s.ranked ++ i ∷ []) ≡ length s.ranked + 1 = length_push s.ranked i in
      let before : length s.ranked + count_by is_none s.ranks ≡ length given = h.counted in
      omega arith

  pub ranked_keeps : ((j : ℕ) → Contains (row given i) j → IsRanked s.ranks j) → Keeps given (ranked_next i s)
  ranked_keeps imported = record {
    ranks = length-set s.ranks i (Some next) ∙ h.ranks;
    pending = h.pending;
    waiting = h.waiting;
    counted = counts;
    to_place = λ k r e. elim (new_cases k r e) [
      | inl p ↦ subst (λ m. slice_get (s.ranked ++ i ∷ []) m ≡ Some k) p.1 (get_pushed s.ranked i ∙ ap Some (sym p.0))
      | inr old ↦ get_kept s.ranked i r k (h.to_place k r old)
    ];
    from_place = λ k r e. elim (get_cases s.ranked i r k e) [
      | inl p ↦ ap (rank_at (ranked_next i s).ranks) (sym p.1) ∙ new_there ∙ ap Some (sym p.0)
      | inr old ↦ new_keeps k r (h.from_place k r old)
    ];
    left = λ k j c. elim (h.left k j c) [
      | inl w ↦ inl (still_ranked j w)
      | inr w ↦ inr w
    ];
    within = h.within;
    before = λ k j r c e. elim (new_cases k r e) [
      | inl p ↦
          let w = imported j (subst (λ m. Contains (row given m) j) p.0 c) in
          let low : w.0 < next = slice_get_within s.ranked w.0 j (h.to_place j w.0 w.1) in
          let same : next ≡ r = p.1 in
          (w.0, new_keeps j w.0 w.1, omega arith)
      | inr old ↦ let w = h.before k j r c old in (w.0, new_keeps j w.0 w.1, w.2)
    ];
  }

-- A wait

row_same : (rows : List (List ℕ)) (i : ℕ) (new : List ℕ) → i < length rows → row (set rows i new) i ≡ new
row_same rows i new l = get_or-set_same rows i new [] l

row_other : (rows : List (List ℕ)) (i k : ℕ) (new : List ℕ) → (k ≡ i → ⊥) → row (set rows i new) k ≡ row rows k
row_other rows i k new d = get_or-set_other rows i k new [] d

pub wait_keeps : (given : List (List ℕ)) (s : Ranking) (i j : ℕ) (new : List ℕ)
    → Keeps given s
    → i < length given
    → ((k : ℕ) → Contains (row s.pending i) k → IsRanked s.ranks k ⊎ Contains new k)
    → ((k : ℕ) → Contains new k → Contains (row s.pending i) k)
    → Keeps given (waits_for i j new s)
wait_keeps given s i j new h l stays was = record {
  ranks = h.ranks;
  pending = length-set s.pending i new ∙ h.pending;
  waiting = length-set s.waiting j (row s.waiting j ++ i ∷ []) ∙ h.waiting;
  counted = h.counted;
  to_place = h.to_place;
  from_place = h.from_place;
  left = λ k m c. elim (h.left k m c) [
    | inl w ↦ inl w
    | inr w ↦ elim (cases_eq k i) [
      | inl p ↦ elim (stays m (subst (λ n. Contains (row s.pending n) m) p w)) [
        | inl v ↦ inl v
        | inr v ↦ inr (subst (λ n. Contains (row (set s.pending i new) n) m) (sym p)
            (subst (λ (r : List ℕ). Contains r m) (sym (row_same s.pending i new there)) v))
      ]
      | inr d ↦ inr (subst (λ (r : List ℕ). Contains r m) (sym (row_other s.pending i k new d)) w)
    ]
  ];
  within = λ k m c. elim (cases_eq k i) [
    | inl p ↦ h.within k m (subst (λ n. Contains (row s.pending n) m) (sym p)
        (was m (subst (λ (r : List ℕ). Contains r m) (row_same s.pending i new there)
        (subst (λ n. Contains (row (set s.pending i new) n) m) p c))))
    | inr d ↦ h.within k m (subst (λ (r : List ℕ). Contains r m) (row_other s.pending i k new d) c)
  ];
  before = h.before;
}
  where
    there : i < length s.pending
    there = let same : length s.pending ≡ length given = h.pending in omega arith

-- who waited for some package still does
pub still_waits : (s : Ranking) (i j : ℕ) (k m : ℕ)
    → Contains (row s.waiting k) m
    → Contains (row (set s.waiting j (row s.waiting j ++ i ∷ [])) k) m
still_waits s i j k m c =
    elim (cases_eq k j) [
      | inl p ↦ elim (cases_lt j (length s.waiting)) [
        | inl l ↦ subst (λ n. Contains (row (set s.waiting j (row s.waiting j ++ i ∷ [])) n) m) (sym p)
            (subst (λ (r : List ℕ). Contains r m) (sym (row_same s.waiting j (row s.waiting j ++ i ∷ []) l))
            (Contains-append_left (row s.waiting j) (i ∷ []) m (subst (λ n. Contains (row s.waiting n) m) p c)))
        | inr past ↦ absurd (contains_nil m (subst (λ (r : List ℕ). Contains r m) (get_or_past s.waiting j [] past)
            (subst (λ n. Contains (row s.waiting n) m) p c)))
      ]
      | inr d ↦ subst (λ (r : List ℕ). Contains r m)
          (sym (row_other s.waiting j k (row s.waiting j ++ i ∷ []) d)) c
    ]

-- One package is settled

module _ (given : List (List ℕ)) (bounded : Bounded given) (k : ℕ) (T : ℕ → Type 0) where
  pub fewer : (U : ℕ → Type 0) (s : Ranking) → ((i : ℕ) → i < length given → U i → T i) → Going given k U s → Going given k T s
  fewer U s f h = record {
    keeps = h.keeps;
    served = h.served;
    attends = λ i l. elim (h.attends i l) [
      | has_rank w ↦ has_rank w
      | to_settle t ↦ to_settle (f i l t)
      | waits j a b c ↦ waits j a b c
    ];
  }

  abbrev ToSettle : ℕ → ℕ → Type 0
  ToSettle p i = (i ≡ p) ⊎ T i

  settle_ranked : (s : Ranking) (p : ℕ) → Going given k (ToSettle p) s → is_unranked s.ranks p ≡ false → Going given k T s
  settle_ranked s p h e = record {
    keeps = h.keeps;
    served = h.served;
    attends = λ i l. elim (h.attends i l) [
      | has_rank w ↦ has_rank w
      | to_settle t ↦ elim t [
        | inl same ↦
            let there : i < length s.ranks = (let long : length s.ranks ≡ length given = h.keeps.ranks in omega arith) in
            has_rank (ranked_some s.ranks i (ap (is_unranked s.ranks) same ∙ e) there)
        | inr u ↦ to_settle u
      ]
      | waits j a b c ↦ waits j a b c
    ];
  }

  settle_next : (s : Ranking) (p : ℕ)
      → Going given k (ToSettle p) s
      → is_unranked s.ranks p ≡ true
      → ((j : ℕ) → Contains (row given p) j → IsRanked s.ranks j)
      → Going given k T (ranked_next p s)
  settle_next s p h e imported = record {
    keeps = ranked_keeps given s p h.keeps e imported;
    served = (
        let more : length (s.ranked ++ p ∷ []) ≡ length s.ranked + 1 = length_push s.ranked p in
        let low : k ≤ length s.ranked = h.served in
        omega arith
        );
    attends = λ i l. elim (h.attends i l) [
      | has_rank w ↦ has_rank (still_ranked given s p h.keeps e i w)
      | to_settle t ↦ elim t [
        | inl same ↦ has_rank (subst (λ m. IsRanked (ranked_next p s).ranks m) (sym same) (new_rank given s p h.keeps e))
        | inr u ↦ to_settle u
      ]
      | waits j a b c ↦ waits j a b (still_late given s p h.keeps e k j h.served c)
    ];
  }

  settle_wait : (s : Ranking) (p j : ℕ) (new : List ℕ)
      → Going given k (ToSettle p) s
      → p < length given
      → Contains (row given p) j
      → rank_at s.ranks j ≡ None
      → Keeps given (waits_for p j new s)
      → Going given k T (waits_for p j new s)
  settle_wait s p j new h l imported none kept = record {
    keeps = kept;
    served = h.served;
    attends = λ i m. elim (h.attends i m) [
      | has_rank w ↦ has_rank w
      | to_settle t ↦ elim t [
        | inl same ↦
            let there : j < length s.waiting =
            (let long : length s.waiting ≡ length given = h.keeps.waiting in
            let low : j < length given = bounded.below p j imported in
            omega arith) in
            waits j (subst (λ n. Contains (row given n) j) (sym same) imported)
            (subst (λ (r : List ℕ). Contains r i) (sym (row_same s.waiting j (row s.waiting j ++ p ∷ []) there))
            (subst (λ n. Contains (row s.waiting j ++ p ∷ []) n) (sym same) (Contains-push (row s.waiting j) p)))
            (λ r e. absurd (none-some r (sym none ∙ e)))
        | inr u ↦ to_settle u
      ]
      | waits n a b c ↦ waits n a (still_waits s p j n i b) c
    ];
  }

  settle_by : (s : Ranking) (p : ℕ) (new : List ℕ)
      → Going given k (ToSettle p) s
      → is_unranked s.ranks p ≡ true
      → left_of s.ranks (row s.pending p) ≡ new
      → Going given k T (settled_with p new s)
  settle_by s p [] h e is =
      settle_next s p h e (λ j c. elim (h.keeps.left p j c) [
        | inl w ↦ w
        | inr w ↦ elim (left_keeps s.ranks (row s.pending p) j w) [
          | inl f ↦
              let there : j < length s.ranks =
              (let long : length s.ranks ≡ length given = h.keeps.ranks in
              let low : j < length given = bounded.below p j c in
              omega arith) in
              ranked_some s.ranks j f there
          | inr f ↦ absurd (contains_nil j (subst (λ (r : List ℕ). Contains r j) is f))
        ]
      ])
  settle_by s p (j ∷ js) h e is =
      let there : p < length given =
      (let low : p < length s.ranks = unranked_there s.ranks p e in
      let long : length s.ranks ≡ length given = h.keeps.ranks in
      omega arith) in
      let unranked : is_unranked s.ranks j ≡ true = left_first s.ranks (row s.pending p) j js is in
      let was : (m : ℕ) → Contains (j ∷ js) m → Contains (row s.pending p) m =
      λ (m : ℕ) (c : Contains (j ∷ js) m). left_within s.ranks (row s.pending p) m
      (subst (λ (r : List ℕ). Contains r m) (sym is) c) in
      settle_wait s p j (j ∷ js) h there
      (h.keeps.within p j (was j (contains_here j js)))
      (unranked_none s.ranks j unranked)
      (wait_keeps given s p j (j ∷ js) h.keeps there
      (λ m c. elim (left_keeps s.ranks (row s.pending p) m c) [
        | inl f ↦
            let low : m < length s.ranks =
            (let long : length s.ranks ≡ length given = h.keeps.ranks in
            let below : m < length given = bounded.below p m (h.keeps.within p m c) in
            omega arith) in
            inl (ranked_some s.ranks m f low)
        | inr f ↦ inr (subst (λ (r : List ℕ). Contains r m) is f)
      ])
      was)

  choose : (s : Ranking) (p : ℕ) (b : Bool)
      → Going given k (ToSettle p) s
      → is_unranked s.ranks p ≡ b
      → Going given k T (if b then settled_with p (left_of s.ranks (row s.pending p)) s else s)
  choose s p true h e = settle_by s p (left_of s.ranks (row s.pending p)) h e refl
  choose s p false h e = settle_ranked s p h e

  pub settle : (s : Ranking) (p : ℕ) → Going given k (ToSettle p) s → Going given k T (settled p s)
  settle s p h = choose s p (is_unranked s.ranks p) h refl

pub settle_list : (given : List (List ℕ)) → Bounded given → (k : ℕ) (ps : List ℕ) (s : Ranking)
    → Going given k (Contains ps) s
    → Going given k (λ _. ⊥) (settled_all ps s)
settle_list given bounded k [] s h = fewer given bounded k (λ _. ⊥) (Contains []) s (λ i _ c. contains_nil i c) h
settle_list given bounded k (p ∷ ps) s h =
    settle_list given bounded k ps (settled p s)
    (settle given bounded k (Contains ps) s p
    (fewer given bounded k (λ i. (i ≡ p) ⊎ Contains ps i) (Contains (p ∷ ps)) s
    (λ i _ c. elim (contains_cases p i ps c) [
      | inl e ↦ inl (sym e)
      | inr g ↦ inr g
    ])
    h))

-- One rank is served

module _ (given : List (List ℕ)) (bounded : Bounded given) (k : ℕ) (s : Ranking) (h : Turned given k s) where
  release : (j : ℕ) → slice_get s.ranked k ≡ Some j → Going given (k + 1) (Contains (row s.waiting j)) (released j s)
  release j is = record {
    keeps = record {
      ranks = h.keeps.ranks;
      pending = h.keeps.pending;
      waiting = length-set s.waiting j [] ∙ h.keeps.waiting;
      counted = h.keeps.counted;
      to_place = h.keeps.to_place;
      from_place = h.keeps.from_place;
      left = h.keeps.left;
      within = h.keeps.within;
      before = h.keeps.before;
    };
    served = (let low : k < length s.ranked = slice_get_within s.ranked k j is in omega arith);
    attends = λ i l. elim (h.attends i l) [
      | has_rank w ↦ has_rank w
      | to_settle t ↦ absurd t
      | waits m a b c ↦ elim (cases_eq m j) [
        | inl p ↦ to_settle (subst (λ n. Contains (row s.waiting n) i) p b)
        | inr d ↦ waits m a (subst (λ (r : List ℕ). Contains r i) (sym (row_other s.waiting j m [] d)) b)
            (λ r e.
            let low : k ≤ r = c r e in
            elim (cases_eq r k) [
              | inl p ↦ absurd (d (same_Some m j
                  (sym (h.keeps.to_place m r e) ∙ ap (slice_get s.ranked) p ∙ is)))
              | inr other ↦ omega arith
            ])
      ]
    ];
  }

  pub served : (o : Option ℕ) → slice_get s.ranked k ≡ o → Turned given (k + 1) (served_by o s)
  served None is = record {
    keeps = h.keeps;
    attends = λ i l. elim (h.attends i l) [
      | has_rank w ↦ has_rank w
      | to_settle t ↦ absurd t
      | waits m a b c ↦ waits m a b (λ r e.
          let low : k ≤ r = c r e in
          let high : r < length s.ranked = slice_get_within s.ranked r m (h.keeps.to_place m r e) in
          elim (cases_lt k (length s.ranked)) [
            | inl there ↦ absurd (none-some (get_or s.ranked k 0)
                (sym is ∙ slice_get-get_or s.ranked k 0 there))
            | inr past ↦ omega arith
          ])
    ];
  }
  served (Some j) is =
      let all = settle_list given bounded (k + 1) (row s.waiting j) (released j s) (release j is) in
      record { keeps = all.keeps; attends = all.attends }

-- The start and the end

none_anywhere : (n i : ℕ) → rank_at (replicate n None) i ≡ None
none_anywhere n i =
    elim (cases_lt i n) [
      | inl l ↦ get_or-replicate n i None None l
      | inr past ↦ get_or_past (replicate n None) i None
          (let long : length (replicate {A = Option ℕ} n None) ≡ n = length-replicate n None in omega arith)
    ]

count_none : (n : ℕ) → count_by is_none (replicate {A = Option ℕ} n None) ≡ n
count_none zero = refl
count_none (suc n) =
    let more : count_by is_none (replicate {A = Option ℕ} (suc n) None) ≡ 1 + count_by is_none (replicate {A = Option ℕ} n None) =
    sum_by-cons (λ (o : Option ℕ). cond {A = ℕ} (is_none o) 1 0) None (replicate n None) in
    let rest : count_by is_none (replicate {A = Option ℕ} n None) ≡ n = count_none n in
    omega arith

pub start : (given : List (List ℕ)) → Going given 0 (λ i. 0 ≤ i) (begun given)
start given = record {
  keeps = record {
    ranks = length-replicate (length given) None;
    pending = refl;
    waiting = length-replicate (length given) [];
    counted = (let all : count_by is_none (replicate {A = Option ℕ} (length given) None) ≡ length given = count_none (length given) in omega arith);
    to_place = λ i r e. absurd (none-some r (sym (none_anywhere (length given) i) ∙ e));
    from_place = λ i r e. absurd (none-some i e);
    left = λ i j c. inr c;
    within = λ i j c. c;
    before = λ i j r c e. absurd (none-some r (sym (none_anywhere (length given) i) ∙ e));
  };
  served = omega arith;
  attends = λ i l. to_settle (omega arith);
}

-- a package without a rank imports another one
pub stuck : (given : List (List ℕ)) (s : Ranking) → Turned given (length given) s
    → (i : ℕ)
    → i < length given
    → rank_at s.ranks i ≡ None
    → (j : ℕ) × Contains (row given i) j × (rank_at s.ranks j ≡ None)
stuck given s h i l none =
    elim (h.attends i l) [
      | has_rank w ↦ absurd (none-some w.0 (sym none ∙ w.1))
      | to_settle t ↦ absurd t
      | waits j a b c ↦ (j, a, by j c (rank_at s.ranks j) refl)
    ]
  where
    by : (j : ℕ) → ((r : ℕ) → rank_at s.ranks j ≡ Some r → length given ≤ r)
        → (o : Option ℕ) → rank_at s.ranks j ≡ o → rank_at s.ranks j ≡ None
    by j c None e = e
    by j c (Some r) e =
        let late : length given ≤ r = c r e in
        let high : r < length s.ranked = slice_get_within s.ranked r j (h.keeps.to_place j r e) in
        let all : length s.ranked + count_by is_none s.ranks ≡ length given = h.keeps.counted in
        absurd (omega arith)
