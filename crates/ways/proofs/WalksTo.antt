-- What a search can find: a list of the code that comes to a node is a walk of as many steps there.
use Rattle.std.proofs.Common.{◌≡◌, ℕ, suc, ◌+◌, ◌<◌, List, [], ◌∷◌, length, Option, Some, None, refl, sym, ap, ◌∙◌, subst, inl, inr, arith}
use Rattle.std.proofs.lemmas.List.{length-map}
use Rattle.std.proofs.lemmas.Option.{none-some, same_Some, slice_get-map, slice_get_within}
use Rattle.std.specs.Prelude.{slice_get, option_map}
use Rattle.bodies.proofs.CarriedFlags.{reached_by_lists}
use Rattle.bodies.specs.Carried.{IsReached, starts as begins, goes as moves, carried}
use Rattle.bodies.specs.NodeEvents.{changed, changed_graph}
use Rattle.flow.specs.GraphOfCode.{nodes}
use Rattle.flow.specs.Walks.{Graph, graph_of}
use Rattle.meaning.proofs.Membership.{contains_here, contains_cases, contains_nil}
use Rattle.meaning.specs.Code.{Occurrence, Code}
use Rattle.meaning.specs.Lists.{Reaches}
use Rattle.meaning.specs.Uses.{Event}
use Rattle.searches.specs.Searched.{Pair, IsPair, IsReachedIn, starts, goes}
use Rattle.searches.specs.declared.carry.TheConstants.{CLASSES}

abbrev pub at : ℕ → ℕ → Pair
at n k = record { node = n; class = k }

-- Walks with their lengths

module _ {E : Type 0} (g : Graph E) (step : E → ℕ → ℕ) (entry : ℕ) (small : entry < CLASSES)
    (within : (e : E) (k : ℕ) → k < CLASSES → step e k < CLASSES) where
  abbrev counting : E → ℕ × ℕ → ℕ × ℕ
  counting e q = (suc q.0, step e q.1)

  counted : (t : List (Occurrence E)) (q : ℕ × ℕ) → carried counting t q ≡ (q.0 + length t, carried step t q.1)
  counted [] q = let same : q.0 ≡ q.0 + 0 = omega arith in λ i. (same i, q.1)
  counted (o ∷ t) q =
      let same : suc q.0 + length t ≡ q.0 + suc (length t) = omega arith in
      counted t (suc q.0, step o.event q.1) ∙ (λ i. (same i, carried step t (step o.event q.1)))

  pair_there : {d : ℕ} {p : Pair} → IsReachedIn g step entry d p → IsPair g p
  pair_there (starts pair start) = pair
  pair_there (goes r pair follows) = pair

  reached_in : (n : ℕ) (q : ℕ × ℕ)
      → IsReached g counting ((0, entry) ∷ []) n q
      → n < length g.nodes
      → IsReachedIn g step entry q.0 (at n q.1)
  reached_in n q (begins a b) low =
      elim (contains_cases (0, entry) q [] b) [
        | inl same ↦
            subst (λ (r : ℕ × ℕ). IsReachedIn g step entry r.0 (at n r.1)) same
            (starts record { is_node = low; is_class = small } (a, refl))
        | inr none ↦ absurd (contains_nil q none)
      ]
  reached_in n q (moves {n = m} {k = k} {o = o} {ms = ms} r a b c) low =
      let before = reached_in m k r (slice_get_within g.nodes m o a) in
      goes before record { is_node = low; is_class = within o.event k.1 (pair_there before).is_class }
      record { occurrence = o; next = ms; is_node = a; are_next = b; leads = c; is_class = refl }

-- A list comes to a node of the code's graph, and is as long as a walk there

pub record ComesInAs
    (c : Code Event) (step : Event → ℕ → ℕ) (entry : ℕ) (t : List (Occurrence Event)) (o : Occurrence Event)
    : Type 0 where
  pub node : ℕ
  pub is_node : slice_get (nodes c) node ≡ Some o
  pub is_reached : IsReachedIn (graph_of c) step entry (length t) (at node (carried step t entry))

pub comes_in : (c : Code Event) (step : Event → ℕ → ℕ) (entry : ℕ)
    → entry < CLASSES
    → ((e : Event) (k : ℕ) → k < CLASSES → step e k < CLASSES)
    → (t : List (Occurrence Event)) (o : Occurrence Event)
    → Reaches c t o
    → ComesInAs c step entry t o
comes_in c step entry small within t o reaches =
    let g = graph_of c in
    let r = (reached_by_lists Event (ℕ × ℕ) c (counting g step entry small within) ((0, entry) ∷ [])).each_list t o
    (0, entry) reaches (contains_here (0, entry) []) in
    let in_steps = reached_in g step entry small within r.0 _ r.2 (slice_get_within (nodes c) r.0 o r.1) in
    let same : 0 + length t ≡ length t = omega arith in
    record {
      node = r.0;
      is_node = r.1;
      is_reached =
          subst (λ d. IsReachedIn g step entry d (at r.0 (carried step t entry))) same
          (subst (λ (q : ℕ × ℕ). IsReachedIn g step entry q.0 (at r.0 q.1)) (counted g step entry small within t (0, entry))
          in_steps);
    }

-- The same in a graph whose events stand for these

some_there : {A B : Type 0} (f : A → B) (o : Option A) (y : B)
    → option_map f o ≡ Some y
    → (x : A) × (o ≡ Some x) × (f x ≡ y)
some_there f None y e = absurd (none-some y e)
some_there f (Some x) y e = (x, refl, same_Some (f x) y e)

module _ {E F : Type 0} (f : E → F) (g : Graph E) (step : F → ℕ → ℕ) (entry : ℕ) where
  abbrev told : E → ℕ → ℕ
  told e = step (f e)

  pair_below : {p : Pair} → IsPair (changed_graph f g) p → IsPair g p
  pair_below {p} pair =
      record { is_node = subst (λ n. p.node < n) (length-map g.nodes (changed f)) pair.is_node; is_class = pair.is_class }

  pub reached_below : {d : ℕ} {p : Pair}
      → IsReachedIn (changed_graph f g) step entry d p
      → IsReachedIn g told entry d p
  reached_below (starts pair start) = starts (pair_below pair) start
  reached_below (goes {p = p} {q = q} r pair follows) =
      let x = some_there (changed f) (slice_get g.nodes p.node) follows.occurrence
      (sym (slice_get-map (changed f) g.nodes p.node) ∙ follows.is_node) in
      goes (reached_below r) (pair_below pair)
      record {
        occurrence = x.0;
        next = follows.next;
        is_node = x.1;
        are_next = follows.are_next;
        leads = follows.leads;
        is_class = follows.is_class ∙ ap (λ (o : Occurrence F). step o.event p.class) (sym x.2);
      }
