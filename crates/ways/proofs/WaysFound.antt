-- What is found of a search is a shortest way of the variable, and where nothing is found there is none.
use Rattle.std.proofs.Common.{◌≡◌, ℕ, ◌<◌, ◌≤◌, Bool, true, List, length, Option, Some, None, Contains, refl, sym, ap, ◌∙◌, subst, arith}
use Rattle.std.proofs.lemmas.Bool.{false≢true}
use Rattle.std.proofs.lemmas.Option.{same_Some}
use Rattle.std.specs.Prelude.{slice_get, option_and_then}
use Rattle.bodies.specs.Bits.{cancel_class as class_of_cancel}
use Rattle.bodies.specs.Carried.{carried}
use Rattle.bodies.specs.NodeEvents.{node_event_view, changed_graph}
use Rattle.bodies.specs.OwnGroups.{groups_of}
use Rattle.bodies.specs.Places.{HavePlaces}
use Rattle.bodies.specs.declared.node.NodeEvent.{NodeEvent}
use Rattle.flow.specs.GraphOfCode.{nodes}
use Rattle.flow.specs.Walks.{Graph, graph_of}
use Rattle.flow.specs.declared.order.NodePlace.{NodePlace}
use Rattle.meaning.specs.BodyEvents.{Variable, VariableRole, own_parameter, own_receiver, declared_in_body, captured}
use Rattle.meaning.specs.Code.{Occurrence}
use Rattle.meaning.specs.FunctionFacts.{VariableKind, cancel, group}
use Rattle.meaning.specs.Uses.{Event}
use Rattle.meaning_packages.specs.PathFaults.{Paths, PathFault}
use Rattle.searches.proofs.Depths.{depths_rise, searches_find_nearest}
use Rattle.searches.specs.Searched.{Pair, IsReachedIn, IsWholeSearch, IsDepth, IsTrail}
use Rattle.searches.specs.declared.carry.TheConstants.{CLASSES}
use Rattle.searches.specs.declared.search.Step.{Step}
use Rattle.ways.proofs.ClassesCarried.{cancel_is, group_is}
use Rattle.ways.proofs.FaultEnds.{told, ends, fault_group}
use Rattle.ways.proofs.FirstOnes.{none_passes, first_is}
use Rattle.ways.proofs.SearchedLists.{stands_for, list_comes}
use Rattle.ways.proofs.WalksTo.{at, comes_in, reached_below}
use Rattle.ways.specs.Asked.{TellsLives}
use Rattle.ways.specs.ClassLaws.{step_within}
use Rattle.ways.specs.ClassSteps.{class_step, entry_by, class_at_entry}
use Rattle.ways.specs.Ends.{is_end}
use Rattle.ways.specs.Found.{first_from, ends_at_node, is_end_step, ComesToOf, TellsWayOfVariable}
use Rattle.ways.specs.Ways.{pending_in, group_told}

entry_small : (kind : VariableKind) (role : VariableRole) → entry_by kind role < CLASSES
entry_small cancel (own_parameter k) = omega arith
entry_small cancel own_receiver = omega arith
entry_small cancel declared_in_body = omega arith
entry_small cancel captured = omega arith
entry_small group (own_parameter k) = omega arith
entry_small group own_receiver = omega arith
entry_small group declared_in_body = omega arith
entry_small group captured = omega arith

pub entry_within : (v : Variable) → class_at_entry v < CLASSES
entry_within v = entry_small v.kind v.role

module _ (b : Paths) (places : HavePlaces b.code b.variables) (v : Variable) (of_body : Contains b.variables v)
    (f : PathFault) (lives_at : NodePlace → ℕ → Bool) (tells : TellsLives b lives_at)
    (g : Graph NodeEvent) (is_graph : changed_graph node_event_view g ≡ graph_of b.code) (steps : List Step) where
  abbrev groups : List ℕ
  groups = groups_of b.variables

  abbrev step : Event → ℕ → ℕ
  step = class_step b.promises groups v

  abbrev entry : ℕ
  entry = class_at_entry v

  abbrev shown : Graph Event
  shown = changed_graph node_event_view g

  abbrev test : Step → Bool
  test = is_end_step shown b.variables groups lives_at v f

  abbrev test_at : Pair → Bool
  test_at p = ends_at_node b.variables groups lives_at v f p.node p.class (slice_get shown.nodes p.node)

  node_there : (n k : ℕ) (x : Option (Occurrence Event))
      → slice_get shown.nodes n ≡ x
      → ends_at_node b.variables groups lives_at v f n k x ≡ true
      → (o : Occurrence Event)
      × (slice_get shown.nodes n ≡ Some o)
      × (is_end b.variables groups (lives_at record { at = o.at; order = o.order; node = n }) v f o k ≡ true)
  node_there n k None is e = absurd (false≢true e)
  node_there n k (Some o) is e = (o, is, e)

  module _ (whole : IsWholeSearch g (λ e. step (node_event_view e)) entry steps) where
    -- a step that ends at the fault, which is as near as a list of so many events
    record PassesNear (d : ℕ) : Type 0 where
      number : ℕ
      there : Step
      depth : ℕ
      is_there : slice_get steps number ≡ Some there
      is_depth : IsDepth steps number depth
      is_near : depth ≤ d
      passes : test there ≡ true

    passes_near : (t : List (Occurrence Event)) (o : Occurrence Event) → ComesToOf b v f t o → PassesNear (length t)
    passes_near t o comes =
        let w = comes_in b.code step entry (entry_within v) (step_within b.promises groups v) t o comes.reaches in
        let m = carried step t entry in
        let r = reached_below node_event_view g step entry
        (subst (λ (h : Graph Event). IsReachedIn h step entry (length t) (at w.node m)) (sym is_graph) w.is_reached) in
        let near = searches_find_nearest NodeEvent g (λ e. step (node_event_view e)) entry steps whole (length t)
        (at w.node m) r in
        let node : slice_get shown.nodes w.node ≡ Some o =
        subst (λ (h : Graph Event). slice_get h.nodes w.node ≡ Some o) (sym is_graph) w.is_node in
        record {
          number = near.number;
          there = near.there;
          depth = near.depth;
          is_there = near.is_there;
          is_depth = near.is_depth;
          is_near = near.is_near;
          passes = ap test_at near.is_pair
              ∙ ap (ends_at_node b.variables groups lives_at v f w.node m) node
              ∙ ends b lives_at tells v of_body t o w.node w.is_node groups m
              (cancel_is b places v t o comes.reaches) (group_is b places v t o comes.reaches) f comes.is_fault;
        }

    pub none_found : first_from test 0 steps ≡ None → TellsWayOfVariable b v f shown None
    none_found e t o comes =
        let near = passes_near t o comes in
        none_passes test 0 steps e near.number near.there near.is_there near.passes

    pub one_found : (i : ℕ) (ns : List ℕ) (told_group : Option ℕ)
        → first_from test 0 steps ≡ Some i
        → IsTrail steps i ns
        → ((there : Step) → slice_get steps i ≡ Some there
        → told_group ≡ group_told f.code v.number (option_and_then pending_in (class_of_cancel groups there.class)))
        → TellsWayOfVariable b v f shown (Some record { nodes = ns; number = v.number; group = told_group })
    one_found i ns told_group e trail is_group =
        let first = first_is test 0 steps i e in
        let place = first.is_place in
        let same : first.place ≡ i = omega (arith, place) in
        let s = stands_for node_event_view g step entry steps whole.are_steps i ns trail in
        let one = same_Some first.element s.there
        (sym (subst (λ k. slice_get steps k ≡ Some first.element) same first.is_there) ∙ s.is_there) in
        let end = node_there s.there.node s.there.class (slice_get shown.nodes s.there.node) refl
        (sym (ap test one) ∙ first.passes) in
        let reaches = list_comes node_event_view g step entry steps whole.are_steps b.code is_graph i ns s end.0 end.1 in
        let in_code : slice_get (nodes b.code) s.there.node ≡ Some end.0 =
        subst (λ (h : Graph Event). slice_get h.nodes s.there.node ≡ Some end.0) is_graph end.1 in
        let is_fault = told b lives_at tells v of_body s.list end.0 s.there.node in_code groups
        (carried step s.list entry)
        (cancel_is b places v s.list end.0 reaches) (group_is b places v s.list end.0 reaches) f
        (subst (λ k. is_end b.variables groups
        (lives_at record { at = end.0.at; order = end.0.order; node = s.there.node }) v f end.0 k ≡ true)
        (sym s.is_class) end.2) in
        record {
          node = s.there.node;
          before = s.before;
          are_nodes = s.are_nodes;
          list = s.list;
          there = end.0;
          is_there = end.1;
          stand = s.stand;
          is = record {
            comes = record { reaches = reaches; is_fault = is_fault };
            is_of = record {
              is_number = refl;
              is_group = is_group s.there s.is_there
                  ∙ fault_group b v s.list end.0 (class_of_cancel groups s.there.class)
                  (λ kind. ap (class_of_cancel groups) (sym s.is_class) ∙ cancel_is b places v s.list end.0 reaches kind) f
                  is_fault;
            };
            is_shortest = λ u p comes.
                let near = passes_near u p comes in
                let le : i ≤ near.number =
                subst (λ k. k ≤ near.number) same (first.is_first near.number near.there near.is_there near.passes) in
                let rise = depths_rise g (λ e. step (node_event_view e)) entry steps whole.are_steps i near.number
                (length s.list) near.depth s.is_depth near.is_depth le in
                let less = near.is_near in
                omega (arith, rise, less);
          };
        }
