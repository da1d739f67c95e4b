-- The lists of a code by way of a graph in memory.
use Rattle.std.proofs.Common.{◌≡◌, ℕ, zero, suc, List, [], ◌∷◌, map, Some, slice_get, refl, sym, ap, ◌∙◌, subst}
use Rattle.meaning.specs.Code.{Occurrence}
use Rattle.meaning.specs.Uses.{Event}
use Rattle.flow.specs.declared.graph.Node.{Node as KeptNode}
use Rattle.flow.specs.GraphOfCode.{nodes}
use Rattle.flow.specs.GraphViews.{graph_view, occurrences_of}
use Rattle.flow.specs.Walks.{Graph, Walk, arrives, goes_on, WalksAreLists}
use Rattle.flow.proofs.WalksOfLists.{graphs_walk}
use Rattle.bodies.specs.declared.node.NodeEvent.{NodeEvent}
use Rattle.bodies.specs.NodeEvents.{node_event_view, changed, changed_graph, events_graph}
use Rattle.bodies.specs.MemoryLists.{stands_for, node_view, GraphsTellLists}

-- Items of a list and of the mapped list

same_first : {A : Type 0} (xs : List A) (x y : A) → slice_get (x ∷ xs) zero ≡ Some y → x ≡ y
same_first xs x y e = cc

module _ {A B : Type 0} (f : A → B) where
  there_too : (xs : List A) (n : ℕ) (x : A) → slice_get xs n ≡ Some x → slice_get (map f xs) n ≡ Some (f x)
  there_too [] n x e = cc
  there_too (y ∷ xs) zero x e = ap (λ z. Some (f z)) (same_first xs y x e)
  there_too (y ∷ xs) (suc n) x e = there_too xs n x e

  record IsAt (xs : List A) (n : ℕ) (y : B) : Type 0 where
    item : A
    is_there : slice_get xs n ≡ Some item
    is : f item ≡ y

  there_before : (xs : List A) (n : ℕ) (y : B) → slice_get (map f xs) n ≡ Some y → IsAt xs n y
  there_before [] n y e = cc
  there_before (x ∷ xs) zero y e = record { item = x; is_there = refl; is = same_first (map f xs) (f x) y e }
  there_before (x ∷ xs) (suc n) y e =
      let w = there_before xs n y e in
      record { item = w.item; is_there = w.is_there; is = w.is }

-- Walks of a graph and of the one with other events

module _ {E F : Type 0} (f : E → F) (g : Graph E) where
  walk_there : {n : ℕ} {t : List (Occurrence E)} → Walk g n t → Walk (changed_graph f g) n (map (changed f) t)
  walk_there (arrives {n = n} {o = o} a) = arrives (there_too (changed f) g.nodes n o a)
  walk_there (goes_on {n = n} {o = o} a b c w) =
      goes_on (there_too (changed f) g.nodes n o a) b c (walk_there w)

  record WalkBefore (n : ℕ) (t : List (Occurrence F)) : Type 0 where
    passed : List (Occurrence E)
    walk : Walk g n passed
    stand : map (changed f) passed ≡ t

  walk_before : {n : ℕ} {t : List (Occurrence F)} → Walk (changed_graph f g) n t → WalkBefore n t
  walk_before (arrives {n = n} {o = o} a) =
      let w = there_before (changed f) g.nodes n o a in
      record { passed = w.item ∷ []; walk = arrives w.is_there; stand = ap (λ p. p ∷ []) w.is }
  walk_before (goes_on {n = n} {o = o} {t = t} a b c k) =
      let w = there_before (changed f) g.nodes n o a in
      let r = walk_before k in
      record {
        passed = w.item ∷ r.passed;
        walk = goes_on w.is_there b c r.walk;
        stand = λ i. w.is i ∷ r.stand i;
      }

views : (xs : List (KeptNode NodeEvent)) → map node_view xs ≡ map stands_for (occurrences_of xs)
views [] = refl
views (x ∷ xs) = ap (λ l. node_view x ∷ l) (views xs)

pub graphs_tell_lists : GraphsTellLists
graphs_tell_lists c g is =
    let are_nodes : map node_view g.nodes.items ≡ nodes c = views g.nodes.items ∙ ap (λ h. h.nodes) is in
    let walks : WalksAreLists c (events_graph g) = subst (λ h. WalksAreLists c h) (sym is) (graphs_walk Event c) in
    record {
      are_nodes = are_nodes;
      each_node = λ n node e.
          ap (λ l. slice_get l n) (sym are_nodes) ∙ there_too node_view g.nodes.items n node e;
      each_occurrence = λ n o e.
          let w = there_before node_view g.nodes.items n o (ap (λ l. slice_get l n) are_nodes ∙ e) in
          record { node = w.item; is_there = w.is_there; stands = w.is };
      each_list = λ o t l.
          let k = walks.each_list o t l in
          let w = walk_before node_event_view (graph_view g) k.2 in
          record { start = k.0; passed = w.passed; is_start = k.1; walk = w.walk; stand = w.stand };
      each_walk = λ n t s w. walks.each_walk n (map stands_for t) s (walk_there node_event_view (graph_view g) w);
    }
