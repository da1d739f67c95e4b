-- What is reached is what walks carry, and in the graph of a code what its lists carry.
use Rattle.std.proofs.Common.{◌≡◌, ℕ, ◌⊎◌, inl, inr, List, [], ◌∷◌, ◌++◌, length, Some, Contains, refl, ap, ◌∙◌, subst, arith}
use Rattle.std.specs.Prelude.{slice_get}
use Rattle.meaning.specs.Code.{Occurrence, Code}
use Rattle.meaning.specs.Lists.{Lists, stopped}
use Rattle.flow.specs.Walks.{Graph, graph_of, Walk, arrives, goes_on}
use Rattle.flow.proofs.WalksOfLists.{graphs_walk}
use Rattle.bodies.specs.Carried.{IsReached, starts, goes, carried, WalkTo, is_there, passes, IsCarried, ReachedByWalks, ReachedByLists}

-- Walks to a node

module _ {E : Type 0} (g : Graph E) where
  -- a walk goes on to a node that can follow
  pub further : (n m s : ℕ) (o : Occurrence E) (ms : List ℕ) (t : List (Occurrence E))
      → slice_get g.nodes n ≡ Some o
      → slice_get g.next n ≡ Some ms
      → Contains ms m
      → WalkTo g n s t
      → WalkTo g m s (t ++ o ∷ [])
  further n m s o ms t a b c is_there = passes a b c is_there
  further n m s o ms t a b c (passes {k = k} {t = u} d e f w) = passes d e f (further n m k o ms u a b c w)

  pub to_walk : (n s : ℕ) (o : Occurrence E) (t : List (Occurrence E))
      → slice_get g.nodes n ≡ Some o
      → WalkTo g n s t
      → Walk g s (t ++ o ∷ [])
  to_walk n s o t a is_there = arrives a
  to_walk n s o t a (passes {k = k} {t = u} d e f w) = goes_on d e f (to_walk n k o u a w)

  -- what a walk's first node is, and where it goes on
  record Rest (s : ℕ) (t : List (Occurrence E)) : Type 0 where
    pub follow : List ℕ
    pub next : ℕ
    pub can_follow : slice_get g.next s ≡ Some follow
    pub follows : Contains follow next
    pub walk : Walk g next t

  first_is : (s : ℕ) (o : Occurrence E) (t : List (Occurrence E)) → Walk g s (o ∷ t) → slice_get g.nodes s ≡ Some o
  first_is s o t (arrives a) = a
  first_is s o t (goes_on a b c w) = a

  rest_is : (s : ℕ) (o : Occurrence E) (t : List (Occurrence E)) → Walk g s (o ∷ t) → (length t ≡ 0) ⊎ Rest s t
  rest_is s o t (arrives a) = inl refl
  rest_is s o t (goes_on {m = m} {ms = ms} a b c w) =
      inr (record { follow = ms; next = m; can_follow = b; follows = c; walk = w })

  more : {X : Type 0} (t : List X) (o : X) → length (t ++ o ∷ []) ≡ 0 → ⊥
  more [] o e = omega (arith, e)
  more (x ∷ t) o e = omega (arith, e)

  from_walk : (s : ℕ) (o : Occurrence E) (t : List (Occurrence E))
      → Walk g s (t ++ o ∷ [])
      → (n : ℕ) × (slice_get g.nodes n ≡ Some o) × WalkTo g n s t
  from_walk s o [] w = (s, first_is s o [] w, is_there)
  from_walk s o (p ∷ t) w =
      elim (rest_is s p (t ++ o ∷ []) w) [
        | inl e ↦ absurd (more t o e)
        | inr r ↦
            let k = from_walk r.next o t r.walk in
            (k.0, k.1, passes (first_is s p (t ++ o ∷ []) w) r.can_follow r.follows k.2)
      ]

  -- What is carried

  module _ {K : Type 0} (step : E → K → K) (entries : List K) where
    pub carried_more : (t : List (Occurrence E)) (o : Occurrence E) (k : K)
        → carried step (t ++ o ∷ []) k ≡ step o.event (carried step t k)
    carried_more [] o k = refl
    carried_more (p ∷ t) o k = carried_more t o (step p.event k)

    pub is_carried : (n : ℕ) (k : K) → IsReached g step entries n k → IsCarried g step entries n k
    is_carried n k (starts a b) = record {
      start = n;
      entry = k;
      before = [];
      is_start = a;
      is_entry = b;
      walk = is_there;
      is_it = refl;
    }
    is_carried n k (goes {n = m} {k = j} {o = o} {ms = ms} r a b c) =
        let w = is_carried m j r in
        record {
          start = w.start;
          entry = w.entry;
          before = w.before ++ o ∷ [];
          is_start = w.is_start;
          is_entry = w.is_entry;
          walk = further m n w.start o ms w.before a b c w.walk;
          is_it = carried_more w.before o w.entry ∙ ap (step o.event) w.is_it;
        }

    pub is_reached : (n s : ℕ) (k : K) (t : List (Occurrence E))
        → IsReached g step entries s k
        → WalkTo g n s t
        → IsReached g step entries n (carried step t k)
    is_reached n s k t r is_there = r
    is_reached n s k t r (passes {k = m} {o = o} {t = u} a b c w) =
        is_reached n m (step o.event k) u (goes r a b c) w

pub reached_by_walks : (E K : Type 0) → ReachedByWalks E K
reached_by_walks E K g step entries n k = (
  is_carried g step entries n k,
  λ w. subst (λ j. IsReached g step entries n j) w.is_it
      (is_reached g step entries n w.start w.entry w.before (starts w.is_start w.is_entry) w.walk),
)

-- Lists

module _ {E : Type 0} (c : Code E) where
  list_walks : (t : List (Occurrence E)) (o : Occurrence E)
      → Lists c (t ++ o ∷ []) stopped
      → (n : ℕ) × Contains (graph_of c).starts n × Walk (graph_of c) n (t ++ o ∷ [])
  list_walks [] o l = (graphs_walk E c).each_list o [] l
  list_walks (p ∷ t) o l = (graphs_walk E c).each_list p (t ++ o ∷ []) l

pub reached_by_lists : (E K : Type 0) → ReachedByLists E K
reached_by_lists E K c step entries = record {
  each_list = λ t o k l e.
      let w = list_walks c t o l in
      let to = from_walk (graph_of c) w.0 o t w.2 in
      (to.0, to.1, is_reached (graph_of c) step entries to.0 w.0 k t (starts w.1 e) to.2);
  each_node = λ n k o is r.
      let w = is_carried (graph_of c) step entries n k r in (
        w.before,
        w.entry,
        w.is_entry,
        w.is_it,
        (graphs_walk E c).each_walk w.start (w.before ++ o ∷ []) w.is_start
            (to_walk (graph_of c) n w.start o w.before is w.walk),
      );
}
