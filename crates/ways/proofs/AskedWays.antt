-- What is found for a body that was told of: its variables, groups and promises are those of the definitions.
use Rattle.std.proofs.Common.{◌≡◌, ℕ, ◌<◌, Bool, List, length, Option, Some, None, Contains, sym, ap, ◌∙◌, subst, arith}
use Rattle.std.proofs.lemmas.Option.{slice_get-map, slice_get_within}
use Rattle.std.specs.Prelude.{slice_get, option_and_then, option_map}
use Rattle.bodies.specs.Bits.{cancel_class}
use Rattle.bodies.specs.MemoryLists.{node_view}
use Rattle.bodies.specs.NodeEvents.{node_event_view, changed, events_graph, IsGraphOf}
use Rattle.bodies.specs.OwnGroups.{groups_of}
use Rattle.bodies.specs.Places.{HavePlaces}
use Rattle.bodies.specs.declared.node.NodeEvent.{NodeEvent}
use Rattle.code.specs.CodeViews.{occurrence_view}
use Rattle.flow.specs.GraphViews.{graph_view}
use Rattle.flow.specs.declared.graph.Graph.{Graph as KeptGraph}
use Rattle.flow.specs.declared.graph.Node.{Node as KeptNode}
use Rattle.flow.specs.declared.order.NodePlace.{NodePlace}
use Rattle.meaning.specs.BodyEvents.{Variable}
use Rattle.meaning.specs.Classes.{Promises}
use Rattle.meaning_packages.specs.PathFaults.{Paths, PathFault}
use Rattle.searches.specs.Searched.{IsWholeSearch, IsTrail}
use Rattle.searches.specs.declared.search.Step.{Step}
use Rattle.ways.proofs.FirstOnes.{first_is}
use Rattle.ways.proofs.WaysFound.{none_found, one_found}
use Rattle.ways.specs.Asked.{TellsLives}
use Rattle.ways.specs.ClassSteps.{class_step, class_at_entry}
use Rattle.ways.specs.Found.{first_from, is_end_step, TellsWayOfVariable}
use Rattle.ways.specs.Ways.{pending_in, group_told}

-- the node of that number in memory, as the graph of events has it
pub node_shown : (g : KeptGraph NodeEvent) (n : ℕ) (node : KeptNode NodeEvent)
    → slice_get g.nodes.items n ≡ Some node
    → slice_get (events_graph g).nodes n ≡ Some (node_view node)
node_shown g n node there =
    slice_get-map (changed node_event_view) (graph_view g).nodes n
    ∙ ap (option_map (changed node_event_view))
    (slice_get-map (λ (m : KeptNode NodeEvent). occurrence_view m.occurrence) g.nodes.items n
    ∙ ap (option_map (λ (m : KeptNode NodeEvent). occurrence_view m.occurrence)) there)

pub first_within : {A : Type 0} (test : A → Bool) (xs : List A) (m : ℕ) → first_from test 0 xs ≡ Some m → m < length xs
first_within test xs m e =
    let w = first_is test 0 xs m e in
    let low = slice_get_within xs w.place w.element w.is_there in
    let same = w.is_place in
    omega (arith, low, same)

module _ (b : Paths) (v : Variable) (of_body : Contains b.variables v) (f : PathFault)
    (lives_at : NodePlace → ℕ → Bool) (tells : TellsLives b lives_at)
    (g : KeptGraph NodeEvent) (is_graph : IsGraphOf b.code g) (places : HavePlaces b.code b.variables)
    (promises : Promises) (are_promises : b.promises ≡ promises)
    (vs : List Variable) (are_variables : b.variables ≡ vs)
    (gs : List ℕ) (are_groups : gs ≡ groups_of b.variables)
    (steps : List Step) (entry : ℕ) (is_entry : entry ≡ class_at_entry v)
    (whole : IsWholeSearch (graph_view g) (λ e. class_step promises gs v (node_event_view e)) entry steps) where
  its_whole : IsWholeSearch (graph_view g) (λ e. class_step b.promises (groups_of b.variables) v (node_event_view e))
      (class_at_entry v) steps
  its_whole =
      subst (λ k. IsWholeSearch (graph_view g)
      (λ e. class_step b.promises (groups_of b.variables) v (node_event_view e)) k steps) is_entry
      (subst (λ hs. IsWholeSearch (graph_view g) (λ e. class_step b.promises hs v (node_event_view e)) entry steps)
      are_groups
      (subst (λ p. IsWholeSearch (graph_view g) (λ e. class_step p gs v (node_event_view e)) entry steps)
      (sym are_promises) whole))

  abbrev asked_first : Option ℕ
  asked_first = first_from (is_end_step (events_graph g) vs gs lives_at v f) 0 steps

  its_first : asked_first
      ≡ first_from (is_end_step (events_graph g) b.variables (groups_of b.variables) lives_at v f) 0 steps
  its_first =
      ap (λ ws. first_from (is_end_step (events_graph g) ws gs lives_at v f) 0 steps) (sym are_variables)
      ∙ ap (λ hs. first_from (is_end_step (events_graph g) b.variables hs lives_at v f) 0 steps) are_groups

  pub asked_none : asked_first ≡ None → TellsWayOfVariable b v f (events_graph g) None
  asked_none e =
      none_found b places v of_body f lives_at tells (graph_view g) is_graph steps its_whole (sym its_first ∙ e)

  pub asked_one : (i : ℕ) (ns : List ℕ) (told_group : Option ℕ)
      → asked_first ≡ Some i
      → IsTrail steps i ns
      → ((there : Step) → slice_get steps i ≡ Some there
      → told_group ≡ group_told f.code v.number (option_and_then pending_in (cancel_class gs there.class)))
      → TellsWayOfVariable b v f (events_graph g) (Some record { nodes = ns; number = v.number; group = told_group })
  asked_one i ns told_group e trail is_group =
      one_found b places v of_body f lives_at tells (graph_view g) is_graph steps its_whole i ns told_group
      (sym its_first ∙ e) trail
      (λ there at. is_group there at
      ∙ ap (λ hs. group_told f.code v.number (option_and_then pending_in (cancel_class hs there.class))) are_groups)
