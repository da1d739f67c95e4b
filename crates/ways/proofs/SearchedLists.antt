-- The steps of a search stand for lists: the nodes of a step and of those before it are a walk of the code's graph.
use Rattle.std.proofs.Common.{◌≡◌, ℕ, suc, List, [], ◌∷◌, ◌++◌, length, Some, Contains, refl, sym, ap, ◌∙◌, subst, arith}
use Rattle.std.proofs.lemmas.List.{length-append}
use Rattle.std.proofs.lemmas.Option.{same_Some, slice_get-map}
use Rattle.std.specs.Prelude.{slice_get, option_map}
use Rattle.bodies.proofs.CarriedFlags.{further, to_walk, carried_more}
use Rattle.bodies.specs.Carried.{carried, WalkTo, is_there as arrived}
use Rattle.bodies.specs.NodeEvents.{changed, changed_graph}
use Rattle.flow.proofs.WalksOfLists.{graphs_walk}
use Rattle.flow.specs.Walks.{Graph, graph_of, Walk}
use Rattle.meaning.specs.Code.{Occurrence, Code}
use Rattle.meaning.specs.Lists.{Reaches}
use Rattle.meaning.specs.Uses.{Event}
use Rattle.searches.specs.Searched.{pair_of, Follows, AreSteps, IsDepth, first, then_on, IsTrail, only, longer}
use Rattle.searches.specs.declared.search.Step.{Step}
use Rattle.ways.specs.Found.{StandFor, none as no_nodes, more as one_node}

one_longer : {X : Type 0} (t : List X) (o : X) → suc (length t) ≡ length (t ++ o ∷ [])
one_longer t o = let long = length-append t (o ∷ []) in omega (arith, long)

module _ {E : Type 0} (f : E → Event) (g : Graph E) (step : Event → ℕ → ℕ) (entry : ℕ) (steps : List Step)
    (are : AreSteps g (λ e. step (f e)) entry steps) where
  abbrev shown : Graph Event
  shown = changed_graph f g

  -- the nodes of the step of that number, its own first, stand for a list that carries its class
  pub record StandsFor (i : ℕ) (ns : List ℕ) : Type 0 where
    pub there : Step
    pub is_there : slice_get steps i ≡ Some there
    pub before : List ℕ
    pub are_nodes : ns ≡ there.node ∷ before
    pub list : List (Occurrence Event)
    pub start : ℕ
    pub is_start : Contains g.starts start
    pub walk : WalkTo shown there.node start list
    pub stand : StandFor shown before list
    pub is_class : carried step list entry ≡ there.class
    pub is_depth : IsDepth steps i (length list)

  pub stands_for : (i : ℕ) (ns : List ℕ) → IsTrail steps i ns → StandsFor i ns
  stands_for i ns (only {s = s} there none) =
      let start = are.at_start i s there none in
      record {
        there = s;
        is_there = there;
        before = [];
        are_nodes = refl;
        list = [];
        start = s.node;
        is_start = start.0;
        walk = arrived;
        stand = no_nodes;
        is_class = sym start.1;
        is_depth = first there none;
      }
  stands_for i ns (longer {j = j} {s = s} {ns = ms} there is rest) =
      let w = stands_for j ms rest in
      let h = are.behind i j s there is in
      let same = same_Some w.there h.earlier (sym w.is_there ∙ h.is_there) in
      let follows = subst (λ (r : Step). Follows g (λ e. step (f e)) (pair_of r) (pair_of s)) (sym same) h.follows in
      let o = changed f follows.occurrence in
      let node : slice_get shown.nodes w.there.node ≡ Some o =
      slice_get-map (changed f) g.nodes w.there.node ∙ ap (option_map (changed f)) follows.is_node in
      record {
        there = s;
        is_there = there;
        before = ms;
        are_nodes = refl;
        list = w.list ++ o ∷ [];
        start = w.start;
        is_start = w.is_start;
        walk = further shown w.there.node s.node w.start o follows.next w.list node follows.are_next follows.leads w.walk;
        stand = subst (λ l. StandFor shown l (w.list ++ o ∷ [])) (sym w.are_nodes) (one_node node w.stand);
        is_class = carried_more shown step (entry ∷ []) w.list o entry ∙ ap (step o.event) w.is_class ∙ sym follows.is_class;
        is_depth = subst (IsDepth steps i) (one_longer w.list o) (then_on there is w.is_depth);
      }

  -- where the graph is that of a code, its lists come there
  pub list_comes : (c : Code Event) → shown ≡ graph_of c → (i : ℕ) (ns : List ℕ) (s : StandsFor i ns) (o : Occurrence Event)
      → slice_get shown.nodes s.there.node ≡ Some o
      → Reaches c s.list o
  list_comes c is_graph i ns s o there =
      (graphs_walk Event c).each_walk s.start (s.list ++ o ∷ [])
      (subst (λ (h : Graph Event). Contains h.starts s.start) is_graph s.is_start)
      (subst (λ (h : Graph Event). Walk h s.start (s.list ++ o ∷ [])) is_graph
      (to_walk shown s.there.node s.start o s.list there s.walk))
