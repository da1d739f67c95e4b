-- A table of numbers of classes tells which classes the lists of a code lead to, and which walks carry to each node.
use Rattle.std.proofs.Common.{◌≡◌, ℕ, ◌<◌, Bool, true, List, [], ◌∷◌, ◌++◌, Option, Some, None, refl, sym, ap, ◌∙◌, subst, true≢false, inl, inr}
use Rattle.std.proofs.lemmas.Option.{same_Some, slice_get_within}
use Rattle.std.specs.Prelude.{slice_get, Contains, option_and_then, unwrap_or}
use Rattle.meaning.proofs.Membership.{contains_here, contains_cases, contains_nil}
use Rattle.meaning.specs.Code.{Occurrence, Code}
use Rattle.meaning.specs.Lists.{Reaches}
use Rattle.meaning.specs.Uses.{Event}
use Rattle.flow.specs.GraphOfCode.{nodes}
use Rattle.flow.specs.Walks.{graph_of, Walk, arrives, goes_on}
use Rattle.flow.proofs.WalksOfLists.{graphs_walk}
use Rattle.bodies.specs.AtNodes.{TellsAtNodes}
use Rattle.bodies.specs.Carried.{IsReached, starts, goes, TellsReached, carried, ReachesByLists}
use Rattle.bodies.proofs.CarriedFlags.{reached_by_lists}
use Rattle.bodies.specs.Classified.{TellsClasses, ArrivesAs, IsMarkedAt}
use Rattle.bodies.specs.Flags.{is_marked_flag}
use Rattle.bodies.specs.BitSteps.{bit_after}

-- What stands in a list of a code is one of its nodes.
module _ (c : Code Event) where
  abbrev pub IsNode : Occurrence Event → Type 0
  IsNode o = (n : ℕ) × (slice_get (nodes c) n ≡ Some o)

  abbrev pub AreNodes : List (Occurrence Event) → Type 0
  AreNodes [] = Unit
  AreNodes (o ∷ t) = IsNode o × AreNodes t

  walk_nodes : (n : ℕ) (t : List (Occurrence Event)) → Walk (graph_of c) n t → AreNodes t
  walk_nodes n t (arrives a) = ((n, a), tt)
  walk_nodes n t (goes_on {m = m} {t = u} a b d w) = ((n, a), walk_nodes m u w)

  front : (t u : List (Occurrence Event)) → AreNodes (t ++ u) → AreNodes t
  front [] u all = tt
  front (o ∷ t) u all = (all.0, front t u all.1)

  pub list_nodes : (t : List (Occurrence Event)) (o : Occurrence Event) → Reaches c t o → AreNodes t
  list_nodes [] o l = tt
  list_nodes (p ∷ t) o l =
      let w = (graphs_walk Event c).each_list p (t ++ o ∷ []) l in
      front (p ∷ t) (o ∷ []) (walk_nodes w.0 (p ∷ t ++ o ∷ []) w.2)

module _ {K : Type 0}
    (c : Code Event) (class_of : ℕ → Option K) (flag_of : K → Option ℕ) (change : Event → K → K)
    (after : K → List (Occurrence Event) → K) where
  -- the classes that the events of the code can bring have numbers
  pub record IsNumbered (width : ℕ) : Type 0 where
    pub told : (k : K) (i : ℕ) → flag_of k ≡ Some i → class_of i ≡ Some k
    pub within : (k : K) (i : ℕ) → flag_of k ≡ Some i → i < width
    pub keeps : (o : Occurrence Event) (k : K) (i : ℕ)
        → IsNode c o
        → flag_of k ≡ Some i
        → (j : ℕ) × (flag_of (change o.event k) ≡ Some j)
    pub none : (k : K) → after k [] ≡ k
    pub next : (k : K) (o : Occurrence Event) (t : List (Occurrence Event))
        → after k (o ∷ t) ≡ after (change o.event k) t

  abbrev pub step : Event → ℕ → ℕ
  step e = bit_after class_of flag_of (change e)

  stepped : (e : Event) (k : K) (i j : ℕ)
      → class_of i ≡ Some k
      → flag_of (change e k) ≡ Some j
      → step e i ≡ j
  stepped e k i j is to =
      ap (λ o. unwrap_or (option_and_then (λ l. flag_of (change e l)) o) i) is ∙ ap (λ o. unwrap_or o i) to

  module _ (width : ℕ) (numbered : IsNumbered width) where
    -- what a list makes of the number of a class is the number of what it makes of the class
    pub carried_class : (t : List (Occurrence Event)) (k : K) (i : ℕ)
        → AreNodes c t
        → flag_of k ≡ Some i
        → flag_of (after k t) ≡ Some (carried step t i)
    carried_class [] k i all e = subst (λ l. flag_of l ≡ Some i) (sym (numbered.none k)) e
    carried_class (o ∷ t) k i all e =
        let to = numbered.keeps o k i all.0 e in
        let is = stepped o.event k i to.0 (numbered.told k i e) to.1 in
        ap flag_of (numbered.next k o t)
        ∙ carried_class t (change o.event k) to.0 all.1 to.1
        ∙ ap (λ j. Some (carried step t j)) (sym is)

    module _ (entry : K) (i : ℕ) (is_entry : flag_of entry ≡ Some i) (has : ℕ → ℕ → Bool)
        (told : TellsReached (graph_of c) step width (i ∷ []) has) where
      by_lists : ReachesByLists c step (i ∷ [])
      by_lists = reached_by_lists Event ℕ c step (i ∷ [])

      flag_there : (n : ℕ) (k : K) → is_marked_flag (has n) (flag_of k) ≡ true
          → (j : ℕ) × (flag_of k ≡ Some j) × (has n j ≡ true)
      flag_there n k e = of_flag (flag_of k) refl e
        where
          of_flag : (o : Option ℕ) → flag_of k ≡ o → is_marked_flag (has n) o ≡ true
              → (j : ℕ) × (flag_of k ≡ Some j) × (has n j ≡ true)
          of_flag None is e = absurd (true≢false (sym e))
          of_flag (Some j) is e = (j, is, e)

      only : (j : ℕ) → Contains (i ∷ []) j → i ≡ j
      only j h = elim (contains_cases i j [] h) [ inl e ↦ e | inr d ↦ absurd (contains_nil j d) ]

      found : (n : ℕ) (o : Occurrence Event) (k : K)
          → slice_get (nodes c) n ≡ Some o
          → is_marked_flag (has n) (flag_of k) ≡ true
          → ArrivesAs c (after entry) o k
      found n o k is e =
          let flag = flag_there n k e in
          let r = (told.at n flag.0 (slice_get_within (nodes c) n o is) (numbered.within k flag.0 flag.1)).0 flag.2 in
          let w = by_lists.each_node n flag.0 o is r in
          let at_entry : carried step w.0 i ≡ flag.0 =
          subst (λ j. carried step w.0 j ≡ flag.0) (sym (only w.1 w.2)) w.3 in
          let class = carried_class w.0 entry i (list_nodes c w.0 o w.4) is_entry in
          record {
            before = w.0;
            reaches = w.4;
            is_class = same_Some (after entry w.0) k
                (sym (numbered.told (after entry w.0) (carried step w.0 i) class)
                ∙ ap class_of at_entry
                ∙ numbered.told k flag.0 flag.1);
          }

      kept : (t : List (Occurrence Event)) (o : Occurrence Event)
          → Reaches c t o
          → IsMarkedAt c (λ n k. is_marked_flag (has n) (flag_of k)) o (after entry t)
      kept t o l =
          let r = by_lists.each_list t o i l (contains_here i []) in
          let class = carried_class t entry i (list_nodes c t o l) is_entry in
          record {
            node = r.0;
            is_node = r.1;
            is_marked = ap (is_marked_flag (has r.0)) class
                ∙ (told.at r.0 (carried step t i) (slice_get_within (nodes c) r.0 o r.1)
                (numbered.within (after entry t) (carried step t i) class)).1 r.2;
          }

      pub tells_classes : TellsClasses c (after entry) (λ n k. is_marked_flag (has n) (flag_of k))
      tells_classes = record { found = found; kept = kept }

      -- At each node by itself

      abbrev IsFlagAt : ℕ → ℕ → Type 0
      IsFlagAt n j = IsReached (graph_of c) step (i ∷ []) n j

      abbrev IsClassAt : ℕ → K → Type 0
      IsClassAt n k = IsReached (graph_of c) change (entry ∷ []) n k

      only_entry : (k : K) → Contains (entry ∷ []) k → entry ≡ k
      only_entry k h = elim (contains_cases entry k [] h) [ inl e ↦ e | inr d ↦ absurd (contains_nil k d) ]

      class_of_flag : (n j : ℕ) → IsFlagAt n j → (k : K) × (flag_of k ≡ Some j) × IsClassAt n k
      class_of_flag n j (starts a b) =
          (entry, is_entry ∙ ap Some (only j b), starts a (contains_here entry []))
      class_of_flag n j (goes {n = m} {k = l} {o = o} {ms = ms} r a b d) =
          let w = class_of_flag m l r in
          let to = numbered.keeps o w.0 l (m, a) w.1 in
          let is = stepped o.event w.0 l to.0 (numbered.told w.0 l w.1) to.1 in
          (change o.event w.0, to.1 ∙ ap Some (sym is), goes w.2 a b d)

      flag_of_class : (n : ℕ) (k : K) → IsClassAt n k → (j : ℕ) × (flag_of k ≡ Some j) × IsFlagAt n j
      flag_of_class n k (starts a b) =
          (i, ap flag_of (sym (only_entry k b)) ∙ is_entry, starts a (contains_here i []))
      flag_of_class n k (goes {n = m} {k = l} {o = o} {ms = ms} r a b d) =
          let w = flag_of_class m l r in
          let to = numbered.keeps o l w.0 (m, a) w.1 in
          let is = stepped o.event l w.0 to.0 (numbered.told l w.0 w.1) to.1 in
          (to.0, to.1, subst (IsFlagAt n) is (goes w.2 a b d))

      pub tells_at_nodes : TellsAtNodes c IsClassAt (λ n k. is_marked_flag (has n) (flag_of k))
      tells_at_nodes n k l = (
        λ e.
            let flag = flag_there n k e in
            let r = (told.at n flag.0 l (numbered.within k flag.0 flag.1)).0 flag.2 in
            let w = class_of_flag n flag.0 r in
            subst (IsClassAt n)
            (same_Some w.0 k (sym (numbered.told w.0 flag.0 w.1) ∙ numbered.told k flag.0 flag.1)) w.2,
        λ r.
            let w = flag_of_class n k r in
            ap (is_marked_flag (has n)) w.1 ∙ (told.at n w.0 l (numbered.within k w.0 w.1)).1 w.2,
      )
