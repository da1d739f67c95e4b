-- What joining a state at nodes changes.
use Rattle.std.proofs.Common.{◌≡◌, ◌≢◌, ℕ, ◌+◌, ◌*◌, ◌<◌, ◌≤◌, true, ◌||◌, ◌⊎◌, inl, inr, List, [], ◌∷◌, length, map, get_or, set, max, Contains, refl, sym, ap, ◌∙◌, subst, arith}
use Rattle.std.proofs.lemmas.Bool.{cases_eq, or_cases, or_left, or_right}
use Rattle.std.proofs.lemmas.List.{length-set, length-map, map-set, get_or-set_same, get_or-set_other}
use Rattle.std.proofs.lemmas.List.Sums.{sum_by-set}
use Rattle.std.proofs.lemmas.Nat.{mul-le}
use Rattle.bodies.specs.declared.state.State.{State}
use Rattle.bodies.specs.States.{has_bit}
use Rattle.bodies.specs.StateWords.{room}
use Rattle.bodies.specs.JoinedStates.{words_at, has_at, room_of, work, Joins}
use Rattle.bodies.specs.declared.sweep.Sweep.{Sweep}
use Rattle.meaning.proofs.Membership.{contains_nil, contains_here, contains_there, contains_cases}

pub either_way : {A B C : Type 0} → (A → C) → (B → C) → A ⊎ B → C
either_way f g (inl a) = f a
either_way f g (inr b) = g b

-- Put together

pub joins_none : (image : List ℕ) (a : Sweep) → Joins [] image a a
joins_none image a = record {
  counted = refl;
  grows = λ _ _ h. h;
  finds = λ _ _ h. inl h;
  done = λ n _ c _ _. absurd (contains_nil n c);
  kept = λ _ _. refl;
  later = omega arith;
  within = λ h. h;
  no_more = omega arith;
}

pub joins_then : (node : ℕ) (nodes image : List ℕ) (a b c : Sweep)
    → Joins (node ∷ []) image a b
    → Joins nodes image b c
    → Joins (node ∷ nodes) image a c
joins_then node nodes image a b c p q = record {
  counted = q.counted ∙ p.counted;
  grows = λ n bit h. q.grows n bit (p.grows n bit h);
  finds = λ n bit h. either_way
      (λ was. either_way (λ e. inl e) (λ w. inr (first n w.0, w.1)) (p.finds n bit was))
      (λ w. inr (contains_there node n nodes w.0, w.1))
      (q.finds n bit h);
  done = λ n bit m l h. either_way
      (λ same. q.grows n bit (p.done n bit (subst (λ k. Contains (node ∷ []) k) same (contains_here node [])) l h))
      (λ later. q.done n bit later (subst (λ k. n < k) (sym p.counted) l) h)
      (contains_cases node n nodes m);
  kept = λ n le. q.kept n le ∙ p.kept n (let l = q.later in omega (arith, le, l));
  later = let l = p.later in let m = q.later in omega (arith, l, m);
  within = λ h. subst (λ k. c.left ≤ k) p.counted (q.within (subst (λ k. b.left ≤ k) (sym p.counted) (p.within h)));
  no_more = let l = p.no_more in let m = q.no_more in omega (arith, l, m);
}
  where
    first : (n : ℕ) → Contains (node ∷ []) n → Contains (node ∷ nodes) n
    first n m = elim (contains_cases node n [] m) [
      | inl same ↦ subst (λ k. Contains (node ∷ nodes) k) same (contains_here node nodes)
      | inr none ↦ absurd (contains_nil n none)
    ]

-- One node

-- it is not there
pub joins_past : (node : ℕ) (image : List ℕ) (a : Sweep) → length a.states.items ≤ node → Joins (node ∷ []) image a a
joins_past node image a past = record {
  counted = refl;
  grows = λ _ _ h. h;
  finds = λ _ _ h. inl h;
  done = λ n _ m l _. absurd (outside n m l);
  kept = λ _ _. refl;
  later = omega arith;
  within = λ h. h;
  no_more = omega arith;
}
  where
    outside : (n : ℕ) → Contains (node ∷ []) n → n < length a.states.items → ⊥
    outside n m l = elim (contains_cases node n [] m) [
      | inl same ↦ omega (arith, same, l, past)
      | inr none ↦ contains_nil n none
    ]

-- the words of the states, of which the one at the node was set
module _ (states : List State) (node : ℕ) (state : State) (within : node < length states) where
  abbrev pub with_state : List State
  with_state = set states node state

  all_words : map (λ (s : State). s.words) with_state ≡ set (map (λ (s : State). s.words) states) node state.words
  all_words = map-set (λ (s : State). s.words) states node state

  long : node < length (map (λ (s : State). s.words) states)
  long = subst (λ k. node < k) (sym (length-map states (λ (s : State). s.words))) within

  pub words_here : words_at with_state node ≡ state.words
  words_here =
      ap (λ ws. get_or ws node []) all_words
      ∙ get_or-set_same (map (λ (s : State). s.words) states) node state.words [] long

  pub words_other : (n : ℕ) → n ≢ node → words_at with_state n ≡ words_at states n
  words_other n other =
      ap (λ ws. get_or ws n []) all_words
      ∙ get_or-set_other (map (λ (s : State). s.words) states) node n state.words [] other

-- its state has all of the image
module _ (node : ℕ) (image : List ℕ) (a : Sweep) (state : State)
    (joined : (bit : ℕ) → has_bit state.words bit ≡ (has_at a.states.items node bit || has_bit image bit)) where
  pub joins_same : state.words ≡ words_at a.states.items node → Joins (node ∷ []) image a a
  joins_same same = record {
    counted = refl;
    grows = λ _ _ h. h;
    finds = λ _ _ h. inl h;
    done = λ n bit m l h. elim (contains_cases node n [] m) [
      | inl is ↦
          subst (λ k. has_at a.states.items k bit ≡ true) is
          (sym (ap (λ ws. has_bit ws bit) same) ∙ joined bit
          ∙ or_right (has_at a.states.items node bit) (has_bit image bit) h)
      | inr none ↦ absurd (contains_nil n none)
    ];
    kept = λ _ _. refl;
    later = omega arith;
    within = λ h. h;
    no_more = omega arith;
  }

  module _ (b : Sweep) (within : node < length a.states.items)
      (is_set : b.states.items ≡ set a.states.items node state) (is_left : b.left ≡ max a.left (node + 1)) where
    here : words_at b.states.items node ≡ state.words
    here = ap (λ ss. words_at ss node) is_set ∙ words_here a.states.items node state within

    other : (n : ℕ) → n ≢ node → words_at b.states.items n ≡ words_at a.states.items n
    other n apart = ap (λ ss. words_at ss n) is_set ∙ words_other a.states.items node state within n apart

    less : (old : State) → old ≡ get_or a.states.items node old → room state.words < room old.words → work b ≤ work a
    less old is_old falls =
        let count : length b.states.items ≡ length a.states.items =
        ap length is_set ∙ length-set a.states.items node state in
        let sums = sum_by-set (λ (s : State). room s.words) a.states.items node state old within in
        let same : room (get_or a.states.items node old).words ≡ room old.words = ap (λ (s : State). room s.words) (sym is_old) in
        let now : room_of b.states.items ≡ room_of (set a.states.items node state) = ap room_of is_set in
        let fewer : room_of b.states.items + 1 ≤ room_of a.states.items = omega (arith, sums, same, falls, now) in
        let product : (room_of b.states.items + 1) * (length a.states.items + 1) ≤ room_of a.states.items * (length a.states.items + 1) =
        mul-le (room_of b.states.items + 1) (length a.states.items + 1) (room_of a.states.items) (length a.states.items + 1) fewer (omega arith) in
        let changed : room_of b.states.items * (length b.states.items + 1) ≡ room_of b.states.items * (length a.states.items + 1) =
        ap (λ k. room_of b.states.items * (k + 1)) count in
        let split : (room_of b.states.items + 1) * (length a.states.items + 1) ≡ room_of b.states.items * (length a.states.items + 1) + (length a.states.items + 1) = omega arith in
        omega (arith, product, changed, split, is_left, within)

    pub joins_more : (old : State) → old ≡ get_or a.states.items node old → room state.words < room old.words
        → Joins (node ∷ []) image a b
    joins_more old is_old falls = record {
      counted = ap length is_set ∙ length-set a.states.items node state;
      grows = λ n bit h. elim (cases_eq n node) [
        | inl same ↦
            subst (λ k. has_at b.states.items k bit ≡ true) (sym same)
            (ap (λ ws. has_bit ws bit) here ∙ joined bit
            ∙ or_left (has_at a.states.items node bit) (has_bit image bit)
            (subst (λ k. has_at a.states.items k bit ≡ true) same h))
        | inr apart ↦ ap (λ ws. has_bit ws bit) (other n apart) ∙ h
      ];
      finds = λ n bit h. elim (cases_eq n node) [
        | inl same ↦
            either_way
            (λ was. inl (subst (λ k. has_at a.states.items k bit ≡ true) (sym same) was))
            (λ its. inr (subst (λ k. Contains (node ∷ []) k) (sym same) (contains_here node []), its))
            (or_cases (has_at a.states.items node bit) (has_bit image bit)
            (sym (joined bit) ∙ sym (ap (λ ws. has_bit ws bit) here)
            ∙ subst (λ k. has_at b.states.items k bit ≡ true) same h))
        | inr apart ↦ inl (sym (ap (λ ws. has_bit ws bit) (other n apart)) ∙ h)
      ];
      done = λ n bit m l h. elim (contains_cases node n [] m) [
        | inl is ↦
            subst (λ k. has_at b.states.items k bit ≡ true) is
            (ap (λ ws. has_bit ws bit) here ∙ joined bit
            ∙ or_right (has_at a.states.items node bit) (has_bit image bit) h)
        | inr none ↦ absurd (contains_nil n none)
      ];
      kept = λ n le. other n (λ e. absurd (omega (arith, le, is_left, e)));
      later = omega (arith, is_left);
      within = λ h. omega (arith, is_left, h, within);
      no_more = less old is_old falls;
    }
