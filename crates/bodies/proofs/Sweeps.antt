-- What going over the nodes keeps of the bits of one variable, from its start to its end.
use Rattle.std.proofs.Common.{◌≡◌, ◌↔◌, ℕ, suc, ◌+◌, ◌<◌, ◌≤◌, Bool, true, false, inl, inr, List, length, Some, None, Contains, refl, sym, ap, ◌∙◌, subst, true≢false, arith}
use Rattle.std.proofs.lemmas.Bool.{cases_eq}
use Rattle.std.proofs.lemmas.Option.{slice_get_within, same_Some, none-some}
use Rattle.std.specs.Prelude.{slice_get}
use Rattle.flow.specs.Walks.{Graph}
use Rattle.bodies.proofs.JoinedStates.{either_way}
use Rattle.bodies.specs.Carried.{IsReached, starts, goes, TellsReached}
use Rattle.bodies.specs.JoinedStates.{words_at, has_at, Joins}
use Rattle.bodies.specs.declared.sweep.Sweep.{Sweep}
use Rattle.meaning.specs.Code.{Occurrence}
use Rattle.bodies.specs.States.{mask_from, IsImage}
use Rattle.bodies.specs.StateWords.{StaysBelow}

module _ {E : Type 0} (g : Graph E) (step : E → ℕ → ℕ) (first count : ℕ) (entries : List ℕ) where
  -- the bit of the variable is set at the node
  abbrev pub has : Sweep → ℕ → ℕ → Bool
  has s n i = mask_from (words_at s.states.items n) first i

  -- what the event of the node makes of each of its bits is set at each node that can follow
  abbrev pub IsFollowed : Sweep → ℕ → Type 0
  IsFollowed s n =
      (o : Occurrence E) (ms : List ℕ) (m i : ℕ)
      → slice_get g.nodes n ≡ Some o
      → slice_get g.next n ≡ Some ms
      → Contains ms m
      → m < length g.nodes
      → i < count
      → has s n i ≡ true
      → has s m (step o.event i) ≡ true

  pub record Sweeps (s : Sweep) : Type 0 where
    pub counted : length s.states.items ≡ length g.nodes
    pub sound : (n i : ℕ) → i < count → has s n i ≡ true → IsReached g step entries n i
    pub entered : (n i : ℕ)
        → n < length g.nodes
        → i < count
        → Contains g.starts n
        → Contains entries i
        → has s n i ≡ true
    pub followed : (n : ℕ) → s.left ≤ n → IsFollowed s n

  -- the bits stay below their number
  abbrev pub Within : Type 0
  Within = (e : E) → StaysBelow count (step e)

  -- The start

  pub begins : (entry : List ℕ) (a s : Sweep)
      → length a.states.items ≡ length g.nodes
      → ((n bit : ℕ) → has_at a.states.items n bit ≡ false)
      → ((i : ℕ) → i < count → (mask_from entry first i ≡ true) ↔ Contains entries i)
      → Joins g.starts entry a s
      → Sweeps s
  begins entry a s long none are_entries joins = record {
    counted = joins.counted ∙ long;
    sound = λ n i l h. either_way
        (λ was. absurd (true≢false (sym was ∙ none n (first + i))))
        (λ w. starts w.0 ((are_entries i l).0 w.1))
        (joins.finds n (first + i) h);
    entered = λ n i l b is_start is_entry.
        joins.done n (first + i) is_start (subst (λ k. n < k) (sym long) l) ((are_entries i b).1 is_entry);
    followed = λ n le o ms m i is_node can_follow is_next l b h.
        absurd (true≢false (sym h ∙ ap (λ ws. mask_from ws first i) (joins.kept n le) ∙ none n (first + i)));
  }

  -- A step

  module _ (a b s : Sweep) (node : ℕ) (h : Sweeps s) (same : a.states.items ≡ s.states.items)
      (last : s.left ≡ suc node) (now : a.left ≡ node) where
    -- there is no such node
    pub passes : slice_get g.nodes node ≡ None → Sweeps a
    passes none = record {
      counted = ap length same ∙ h.counted;
      sound = λ n i l e. h.sound n i l (was n i e);
      entered = λ n i l b is_start is_entry. is n i (h.entered n i l b is_start is_entry);
      followed = λ n le o ms m i is_node can_follow is_next l b e. is m (step o.event i)
          (h.followed n (later n o le is_node) o ms m i is_node can_follow is_next l b (was n i e));
    }
      where
        was : (n i : ℕ) → has a n i ≡ true → has s n i ≡ true
        was n i e = subst (λ ss. mask_from (words_at ss n) first i ≡ true) same e

        is : (n i : ℕ) → has s n i ≡ true → has a n i ≡ true
        is n i e = subst (λ ss. mask_from (words_at ss n) first i ≡ true) (sym same) e

        later : (n : ℕ) (o : Occurrence E) → a.left ≤ n → slice_get g.nodes n ≡ Some o → s.left ≤ n
        later n o le is_node = elim (cases_eq n node) [
          | inl e ↦ absurd (none-some o (sym none ∙ ap (slice_get g.nodes) (sym e) ∙ is_node))
          | inr apart ↦ omega (arith, le, last, now, apart)
        ]

    -- the node's state was changed by its event, and joined to the states after it
    module _ (o : Occurrence E) (ms image : List ℕ)
        (is_node : slice_get g.nodes node ≡ Some o) (can_follow : slice_get g.next node ≡ Some ms)
        (is_image : IsImage count (step o.event) (mask_from (words_at s.states.items node) first) (mask_from image first))
        (joins : Joins ms image a b) where
      was_there : (n i : ℕ) → has s n i ≡ true → has b n i ≡ true
      was_there n i e =
          joins.grows n (first + i) (subst (λ ss. mask_from (words_at ss n) first i ≡ true) (sym same) e)

      reached : (n i : ℕ) → i < count → Contains ms n → mask_from image first i ≡ true → IsReached g step entries n i
      reached n i l m e =
          let w = (is_image i l).0 e in
          subst (IsReached g step entries n) w.3 (goes (h.sound node w.0 w.1 w.2) is_node can_follow m)

      unchanged : (n : ℕ) → b.left ≤ n → words_at b.states.items n ≡ words_at s.states.items n
      unchanged n le = joins.kept n le ∙ ap (λ ss. words_at ss n) same

      follows : Within → (n : ℕ) → b.left ≤ n → IsFollowed b n
      follows within n le p ms' m i node_is follow is_next l small e =
          let before : has s n i ≡ true = sym (ap (λ ws. mask_from ws first i) (unchanged n le)) ∙ e in
          elim (cases_eq n node) [
            | inl it ↦
                let its = same_Some o p (sym is_node ∙ ap (slice_get g.nodes) (sym it) ∙ node_is) in
                let next = same_Some ms ms' (sym can_follow ∙ ap (slice_get g.next) (sym it) ∙ follow) in
                subst (λ (q : Occurrence E). has b m (step q.event i) ≡ true) its
                (joins.done m (first + step o.event i) (subst (λ ns. Contains ns m) (sym next) is_next)
                (subst (λ k. m < k) (sym (ap length same ∙ h.counted)) l)
                ((is_image (step o.event i) (within o.event i small)).1
                (i, small, subst (λ k. has s k i ≡ true) it before, refl)))
            | inr apart ↦
                let after = joins.later in
                was_there m (step p.event i)
                (h.followed n (omega (arith, le, after, now, last, apart)) p ms' m i node_is follow is_next l small before)
          ]

      pub steps : Within → Sweeps b
      steps within = record {
        counted = joins.counted ∙ ap length same ∙ h.counted;
        sound = λ n i l e. either_way
            (λ was. h.sound n i l (subst (λ ss. mask_from (words_at ss n) first i ≡ true) same was))
            (λ w. reached n i l w.0 w.1)
            (joins.finds n (first + i) e);
        entered = λ n i l small is_start is_entry. was_there n i (h.entered n i l small is_start is_entry);
        followed = follows within;
      }

  -- The end

  module _ (s : Sweep) (h : Sweeps s) (ended : s.left ≡ 0) (within : Within)
      (small : (i : ℕ) → Contains entries i → i < count) where
    below : (n i : ℕ) → IsReached g step entries n i → i < count
    below n i (starts a b) = small i b
    below n i (goes {n = m} {k = j} {o = o} r a b c) = within o.event j (below m j r)

    complete : (n i : ℕ) → IsReached g step entries n i → n < length g.nodes → has s n i ≡ true
    complete n i (starts a b) l = h.entered n i l (small i b) a b
    complete n i (goes {n = m} {k = j} {o = o} {ms = ms} r a b c) l =
        h.followed m (omega (arith, ended)) o ms n j a b c l (below m j r)
        (complete m j r (slice_get_within g.nodes m o a))

    pub tells : TellsReached g step count entries (has s)
    tells = record { at = λ n i l w. (λ e. h.sound n i w e, λ r. complete n i r l) }
