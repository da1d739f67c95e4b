-- A body that is laid out, and what is tested of its certificates.
use Rattle.std.proofs.Common.{◌≡◌, ◌↔◌, ℕ, ◌+◌, ◌-◌, ◌<◌, ◌≤◌, Bool, true, false, ◌&&◌, ◌||◌, not, IsTrue, List, ◌∷◌, ◌++◌, length, get_or, drop, map, refl, sym, ap, ◌∙◌, subst}
use Rattle.std.specs.Prelude.{nat_le}
use Rattle.std.specs.List.{list_all}
use Rattle.std.proofs.lemmas.Bool.{and_parts, and_left, and_right, leb-true}
use Rattle.std.proofs.lemmas.List.{drop_more, drop_all, length-map}
use Rattle.path_faults.specs.FoundFaults.{any_from}
use Rattle.events.specs.declared.variable.Variable.{Variable as KeptVariable}
use Rattle.events.specs.VariableViews.{variable_view}
use Rattle.bodies.specs.declared.graph.BodyGraph.{BodyGraph}
use Rattle.bodies.specs.declared.node.NodeEvent.{NodeEvent}
use Rattle.bodies.specs.NodeEvents.{node_event_view, changed, events_graph}
use Rattle.flow.specs.declared.graph.Node.{Node as KeptNode}
use Rattle.flow.specs.declared.order.NodePlace.{NodePlace}
use Rattle.flow.specs.GraphViews.{occurrences_of, links_of}
use Rattle.meaning.specs.BodyEvents.{Variable}
use Rattle.tree.specs.declared.edition.Edition.{Edition}
use Rattle.meaning.specs.Classes.{Promises}
use Rattle.meaning.specs.FunctionFacts.{cancel, group}
use Rattle.meaning.specs.Uses.{Event}
use Rattle.meaning.specs.declared.TheConstants.{MOST_CANCELS, MOST_GROUPS}
use Rattle.bodies.specs.States.{has_bit}
use Rattle.checker.specs.declared.laid_out.LaidOut.{LaidOut}
use Rattle.checker.specs.Certificates.{spare, groups_with_bits, row_from, masks_in, masks_at, Holds, SettlesIn}
use Rattle.checker.specs.CertificateTests as tested
use Rattle.checker.specs.CertificateTests.{all_from, mask_in, have_places, all_start_among, has_rows, starts_hold, edges_hold, has_fault, loads, all_step_into, edges_from, breaks_settling}
use Rattle.checker.specs.LaidOutViews.{Vec, states_view, masks_of, RowsOfNodes, body_of, IsReturn, IsLaidOut, HavePlaces, LaysOut}
use Rattle.checker.specs.Loaded.{numbers_of, AreLoaded, step_of, steps_into}
use Rattle.checker.specs.NodeStates.{IsImageOf}
use Rattle.checker.proofs.FewVariables.{same_groups}
use Rattle.checker.proofs.NodeRows.{each_row}
use Rattle.checker.proofs.SteppedMasks.{goes_tested}
use Rattle.checker.proofs.Tested.{holds_is, settles_is}

pub lays_out : (edition : Edition) (variables : List KeptVariable) (kept : BodyGraph) (l : LaidOut) (nodes : ℕ)
    (order : List NodePlace)
    → l.edition ≡ edition
    → l.variables.now ≡ variables
    → l.kept.now ≡ kept
    → nodes ≡ length kept.graph.nodes.items
    → order ≡ kept.order.items
    → RowsOfNodes nodes order l.rows.items
    → l.numbers.cancels.items ≡ numbers_of cancel (map variable_view variables)
    → l.numbers.groups.items ≡ numbers_of group (map variable_view variables)
    → (own : List ℕ)
    → own ≡ l.numbers.groups.items
    → l.groups.items ≡ own ++ spare (MOST_GROUPS - length own)
    → IsReturn l.nothing
    → LaysOut edition variables kept l
lays_out edition variables kept l nodes order is_edition are_variables is_kept count is_order rows cancels groups own is_own bits nothing = record {
  is_edition = is_edition;
  are_variables = are_variables;
  is_kept = is_kept;
  is_laid_out = λ whole. record {
    rows = λ n.
        each_row (occurrences_of kept.graph.nodes.items) kept.order.items l.rows.items
        (subst (λ k. RowsOfNodes k kept.order.items l.rows.items)
        (count ∙ sym (length-map kept.graph.nodes.items _))
        (subst (λ ps. RowsOfNodes nodes ps l.rows.items) is_order rows))
        whole n
        ∙ ap (λ k. row_from 0 k.order.items n) (sym is_kept);
    cancels = cancels ∙ ap (λ vs. numbers_of cancel (map variable_view vs)) (sym are_variables);
    own_groups = groups ∙ ap (λ vs. numbers_of group (map variable_view vs)) (sym are_variables);
    groups =
        bits
        ∙ ap (λ ns. ns ++ spare (MOST_GROUPS - length ns)) (is_own ∙ groups ∙ same_groups (map variable_view variables))
        ∙ ap (λ vs. groups_with_bits (map variable_view vs)) (sym are_variables);
    nothing = nothing;
  };
}

-- What nodes do

module _ (l : LaidOut) (p : Promises) (e : Event) (before after : List ℕ) (laid : IsLaidOut l) where
  abbrev variables : List Variable
  variables = map variable_view l.variables.now

  -- what is told of an image and a state is what is tested of the masks
  pub goes_as : (image others : List ℕ) (result : Bool)
      → IsImageOf l p e before image
      → AreLoaded variables after (length variables) others
      → (IsTrue result) ↔ ((bit : ℕ) → has_bit image bit ≡ true → has_bit others bit ≡ true)
      → result ≡ all_step_into l.groups.items variables p e before after
  goes_as image others result of loaded tells =
      let kept = of.are_kept in
      let its = of.is_changed in
      goes_tested p e its.done (λ v. its.does_same.to_cancel p v) (λ v. its.does_same.to_group p v) variables
      of.kept kept.fit (kept.cancels ∙ laid.cancels) (kept.own_groups ∙ laid.own_groups) before after of.loaded image others
      of.are_loaded loaded its.applies result tells
      ∙ ap (λ gs. all_step_into gs variables p e before after) kept.groups

  pub goes_nowhere : (rest : Bool) → loads variables before ≡ false → false ≡ (loads variables before && rest)
  goes_nowhere rest none = sym (and_left (loads variables before) rest none)

  abbrev steps_part : Bool
  steps_part =
      all_from
      (λ i (v : Variable). steps_into (step_of p l.groups.items e v.number v.kind) (mask_in before i) (mask_in after i)) 0 variables

  pub none_loaded : loads variables after ≡ false → false ≡ all_step_into l.groups.items variables p e before after
  none_loaded none =
      sym (and_right (loads variables before) (loads variables after && steps_part)
      (and_left (loads variables after) steps_part none))

-- the masks at the nodes are those that are looked up
pub at_nodes : (l : LaidOut) (states : List (Vec ℕ)) (p : Promises) (e : Event) (number after : ℕ) (before behind : List ℕ)
    (result : Bool)
    → before ≡ masks_of l states number
    → behind ≡ masks_of l states after
    → result ≡ all_step_into l.groups.items (map variable_view l.variables.now) p e before behind
    → result ≡ all_step_into l.groups.items (map variable_view l.variables.now) p e (masks_of l states number)
    (masks_of l states after)
at_nodes l states p e number after before behind result is was tests =
    tests ∙ (λ i. all_step_into l.groups.items (map variable_view l.variables.now) p e (is i) (was i))

-- the edges of the nodes from that number on, by this test
abbrev pub edges_left : (ℕ → Event → ℕ → Bool) → ℕ → List (KeptNode NodeEvent) → Bool
edges_left test n nodes =
    edges_from test n (map (changed node_event_view) (occurrences_of nodes)) (links_of nodes)

module _ (test : ℕ → Event → ℕ → Bool) (n : ℕ) (nodes : List (KeptNode NodeEvent)) (node : KeptNode NodeEvent)
    (within : n < length nodes) (is : node ≡ get_or nodes n node) (own whole : Bool)
    (tests : own ≡ list_all (test n (node_event_view node.occurrence.event)) node.next.items)
    (left : edges_left test n (drop n nodes) ≡ whole) where
  split : edges_left test n (drop n nodes) ≡ (own && edges_left test (n + 1) (drop (n + 1) nodes))
  split =
      ap (edges_left test n) (drop_more nodes n node within ∙ ap (λ x. x ∷ drop (n + 1) nodes) (sym is))
      ∙ ap (λ b. b && edges_left test (n + 1) (drop (n + 1) nodes)) (sym tests)

  pub edges_next : own ≡ true → edges_left test (n + 1) (drop (n + 1) nodes) ≡ whole
  edges_next so = sym (split ∙ ap (λ b. b && edges_left test (n + 1) (drop (n + 1) nodes)) so) ∙ left

  pub edges_stop : own ≡ false → false ≡ whole
  edges_stop fails = sym (split ∙ and_left own (edges_left test (n + 1) (drop (n + 1) nodes)) fails) ∙ left

pub edges_end : (test : ℕ → Event → ℕ → Bool) (n : ℕ) (nodes : List (KeptNode NodeEvent)) (whole : Bool)
    → length nodes ≤ n
    → edges_left test n (drop n nodes) ≡ whole
    → true ≡ whole
edges_end test n nodes whole past left = sym (ap (edges_left test n) (drop_all n nodes past)) ∙ left

-- What is at fault

-- some node passes the test, from that number on
abbrev pub any_left : (ℕ → Event → Bool) → ℕ → List (KeptNode NodeEvent) → Bool
any_left test n nodes = any_from (λ k o. test k o.event) n (map (changed node_event_view) (occurrences_of nodes))

module _ (test : ℕ → Event → Bool) (n : ℕ) (nodes : List (KeptNode NodeEvent)) (node : KeptNode NodeEvent)
    (within : n < length nodes) (is : node ≡ get_or nodes n node) (own whole : Bool)
    (tests : own ≡ test n (node_event_view node.occurrence.event))
    (left : any_left test n (drop n nodes) ≡ whole) where
  any_split : any_left test n (drop n nodes) ≡ (own || any_left test (n + 1) (drop (n + 1) nodes))
  any_split =
      ap (any_left test n) (drop_more nodes n node within ∙ ap (λ x. x ∷ drop (n + 1) nodes) (sym is))
      ∙ ap (λ b. b || any_left test (n + 1) (drop (n + 1) nodes)) (sym tests)

  pub any_next : own ≡ false → any_left test (n + 1) (drop (n + 1) nodes) ≡ whole
  any_next fails = sym (any_split ∙ ap (λ b. b || any_left test (n + 1) (drop (n + 1) nodes)) fails) ∙ left

  pub any_stop : own ≡ true → true ≡ whole
  any_stop so = sym (any_split ∙ ap (λ b. b || any_left test (n + 1) (drop (n + 1) nodes)) so) ∙ left

-- The whole

together : (a b c rest : Bool) → (a && (b && (c && rest))) ≡ ((a && (b && c)) && rest)
together true true c rest = refl
together true false c rest = refl
together false b c rest = refl

-- where the test of places is passed, there are places
pub places_there : (l : LaidOut) (rest fit : Bool)
    → fit ≡ (have_places l.numbers.cancels.items l.numbers.groups.items l.groups.items && rest)
    → fit ≡ true
    → HavePlaces l
places_there l rest fit is passes =
    let all = and_parts (have_places l.numbers.cancels.items l.numbers.groups.items l.groups.items) rest
    (sym is ∙ passes) in
    let first = and_parts (nat_le (length l.numbers.cancels.items) MOST_CANCELS)
    (nat_le (length l.numbers.groups.items) MOST_GROUPS && nat_le (length l.groups.items) MOST_GROUPS) all.0 in
    let second = and_parts (nat_le (length l.numbers.groups.items) MOST_GROUPS)
    (nat_le (length l.groups.items) MOST_GROUPS) first.1 in
    record {
      cancels = leb-true (length l.numbers.cancels.items) MOST_CANCELS first.0;
      own_groups = leb-true (length l.numbers.groups.items) MOST_GROUPS second.0;
      groups = leb-true (length l.groups.items) MOST_GROUPS second.1;
    }

module _ (l : LaidOut) (states : List (Vec ℕ)) (p : Promises) (claims : ℕ → Bool) (laid : IsLaidOut l) where
  pub holds_so : (result : Bool)
      → result ≡ tested.holds l.numbers.cancels.items l.numbers.groups.items l.groups.items (masks_of l states)
      (body_of l p claims) (states_view states)
      → IsTrue result ↔ Holds (body_of l p claims) (states_view states)
  holds_so result is =
      subst (λ t. IsTrue t ↔ Holds (body_of l p claims) (states_view states)) (sym (is ∙ same))
      (holds_is (body_of l p claims) (states_view states))
    where
      same : tested.holds l.numbers.cancels.items l.numbers.groups.items l.groups.items (masks_of l states)
          (body_of l p claims) (states_view states)
          ≡ tested.holds (numbers_of cancel (map variable_view l.variables.now))
          (numbers_of group (map variable_view l.variables.now)) (groups_with_bits (map variable_view l.variables.now))
          (masks_at (body_of l p claims) (states_view states)) (body_of l p claims) (states_view states)
      same i =
          tested.holds (laid.cancels i) (laid.own_groups i) (laid.groups i)
          (λ n. masks_in (states_view states) (laid.rows n i)) (body_of l p claims) (states_view states)

  -- what is tested one after the other

  abbrev views : List Variable
  views = map variable_view l.variables.now

  abbrev whole : Bool
  whole =
      tested.holds l.numbers.cancels.items l.numbers.groups.items l.groups.items (masks_of l states) (body_of l p claims)
      (states_view states)

  abbrev places_part : Bool
  places_part = have_places l.numbers.cancels.items l.numbers.groups.items l.groups.items

  abbrev starting_part : Bool
  starting_part = all_start_among l.groups.items (events_graph l.kept.now.graph).nodes

  abbrev rows_part : Bool
  rows_part = has_rows l.edition views (length l.kept.now.order.items) (states_view states)

  abbrev starts_part : Bool
  starts_part = starts_hold l.groups.items views (masks_of l states) l.kept.now.graph.starts.items

  abbrev edges_part : Bool
  edges_part =
      edges_hold l.groups.items views (masks_of l states) p (events_graph l.kept.now.graph).nodes
      (events_graph l.kept.now.graph).next

  abbrev fault_part : Bool
  fault_part = has_fault l.groups.items views (masks_of l states) claims (events_graph l.kept.now.graph).nodes

  module _ (fit : Bool) (is_fit : fit ≡ (places_part && (starting_part && rows_part))) where
    to_fit : whole ≡ (fit && (starts_part && (edges_part && not fault_part)))
    to_fit =
        together places_part starting_part rows_part (starts_part && (edges_part && not fault_part))
        ∙ ap (λ t. t && (starts_part && (edges_part && not fault_part))) (sym is_fit)

    pub unfit : fit ≡ false → IsTrue false ↔ Holds (body_of l p claims) (states_view states)
    unfit fails =
        holds_so false (sym (to_fit ∙ ap (λ t. t && (starts_part && (edges_part && not fault_part))) fails))

    module _ (fits : fit ≡ true) (starts : Bool) (are_starts : starts ≡ starts_part) where
      to_starts : whole ≡ (starts && (edges_part && not fault_part))
      to_starts =
          to_fit ∙ ap (λ t. t && (starts_part && (edges_part && not fault_part))) fits
          ∙ ap (λ t. t && (edges_part && not fault_part)) (sym are_starts)

      pub not_begun : starts ≡ false → IsTrue false ↔ Holds (body_of l p claims) (states_view states)
      not_begun fails = holds_so false (sym (to_starts ∙ ap (λ t. t && (edges_part && not fault_part)) fails))

      module _ (begun : starts ≡ true) (edges : Bool) (are_edges : edges ≡ edges_part) where
        to_edges : whole ≡ (edges && not fault_part)
        to_edges =
            to_starts ∙ ap (λ t. t && (edges_part && not fault_part)) begun
            ∙ ap (λ t. t && not fault_part) (sym are_edges)

        pub not_along : edges ≡ false → IsTrue false ↔ Holds (body_of l p claims) (states_view states)
        not_along fails = holds_so false (sym (to_edges ∙ ap (λ t. t && not fault_part) fails))

        pub by_faults : edges ≡ true → (fault : Bool) → fault ≡ fault_part
            → IsTrue (not fault) ↔ Holds (body_of l p claims) (states_view states)
        by_faults goes fault are_faults =
            holds_so (not fault) (ap not are_faults ∙ sym (to_edges ∙ ap (λ t. t && not fault_part) goes))

  pub settles_so : (i : ℕ) (v : Variable) (result : Bool)
      → result ≡ not (breaks_settling l.groups.items (masks_of l states) (events_graph l.kept.now.graph).nodes i v.kind)
      → IsTrue result ↔ SettlesIn (body_of l p claims) (states_view states) i v
  settles_so i v result is =
      subst (λ t. IsTrue t ↔ SettlesIn (body_of l p claims) (states_view states) i v) (sym (is ∙ same))
      (settles_is (body_of l p claims) (states_view states) i v)
    where
      same : not (breaks_settling l.groups.items (masks_of l states) (events_graph l.kept.now.graph).nodes i v.kind)
          ≡ not (breaks_settling (groups_with_bits (map variable_view l.variables.now))
          (masks_at (body_of l p claims) (states_view states)) (events_graph l.kept.now.graph).nodes i v.kind)
      same j =
          not (breaks_settling (laid.groups j) (λ n. masks_in (states_view states) (laid.rows n j))
          (events_graph l.kept.now.graph).nodes i v.kind)
