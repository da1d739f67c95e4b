-- The groups that may be live at a place by a table of classes are those that some list leaves live there.
use Rattle.std.proofs.Common.{◌≡◌, ◌==◌, ℕ, Bool, true, ◌&&◌, List, Some, refl, sym, ap, ◌∙◌, subst}
use Rattle.std.specs.Prelude.{slice_get}
use Rattle.std.proofs.lemmas.Bool.{and_parts, and_from}
use Rattle.std.proofs.lemmas.Option.{same_Some}
use Rattle.bodies.specs.Classified.{Classifies}
use Rattle.flow.specs.GraphOfCode.{nodes}
use Rattle.meaning.specs.BodyEvents.{Variable}
use Rattle.meaning.specs.Classes.{in_state}
use Rattle.meaning.specs.Code.{Occurrence}
use Rattle.meaning.specs.Tracked.{live}
use Rattle.meaning.specs.Uses.{Event, is_group}
use Rattle.meaning_packages.specs.PathFaults.{Paths}
use Rattle.path_faults.proofs.Kept.{same_number, is_same, group_kind, is_group_kind}
use Rattle.path_faults.proofs.Places.{contains_at, passes_at, any_at}
use Rattle.path_faults.specs.FoundFaults.{Cancels, Groups, is_live_group, is_same_place, is_live_at, is_live_there}
use Rattle.ways.specs.Asked.{MayBeLive, TellsLives}

module _ (b : Paths) (cancels : Cancels) (groups : Groups)
    (tells : Classifies b.code b.promises b.variables cancels groups) where
  abbrev vs : List Variable
  vs = b.variables

  abbrev os : List (Occurrence Event)
  os = nodes b.code

  abbrev lives : ℕ → ℕ → ℕ → Bool
  lives = is_live_there vs groups os

  -- the test of a node and of a place among the variables
  abbrev at_node : ℕ → ℕ → ℕ → ℕ → Occurrence Event → Bool
  at_node at order j n o = is_live_at vs groups n o.at o.order at order j

  abbrev at_place : ℕ → ℕ → ℕ → ℕ → Occurrence Event → ℕ → Variable → Bool
  at_place at order j n o i g = is_live_group g (groups i n) && is_same_place o.at o.order i at order j

  live_before : (n : ℕ) (o : Occurrence Event)
      → slice_get os n ≡ Some o
      → (i : ℕ) (g : Variable)
      → slice_get vs i ≡ Some g
      → is_live_group g (groups i n) ≡ true
      → MayBeLive b g o.at o.order
  live_before n o here i g there e =
      let parts = and_parts (is_group (Some g.kind)) (groups i n (in_state live)) e in
      let kind = group_kind g.kind parts.0 in
      let it = (tells.of_group i g there kind).found n o (in_state live) here parts.1 in
      record {
        list = it.before;
        there = o;
        reaches = it.reaches;
        same_offset = refl;
        same_order = refl;
        is_live = record { is_of_body = contains_at vs i g there; is_group_variable = kind; is_live = it.is_class };
      }

  live_there : (at order j : ℕ) (g : Variable)
      → slice_get vs j ≡ Some g
      → lives at order j ≡ true
      → MayBeLive b g at order
  live_there at order j g there e =
      let m = passes_at (at_node at order j) os e in
      let o = m.element in
      let w = passes_at (at_place at order j m.place o) vs m.passes in
      let parts = and_parts (is_live_group w.element (groups w.place m.place))
      (is_same_place o.at o.order w.place at order j) w.passes in
      let offset = and_parts (o.at == at) ((o.order == order) && (w.place == j)) parts.1 in
      let rest = and_parts (o.order == order) (w.place == j) offset.1 in
      let is_g : w.element ≡ g =
      same_Some w.element g (sym w.is_there ∙ ap (slice_get vs) (same_number w.place j rest.1) ∙ there) in
      let it = live_before m.place o m.is_there w.place w.element w.is_there parts.0 in
      subst (λ h. MayBeLive b h at order) is_g
      (subst (λ k. MayBeLive b w.element k order) (same_number o.at at offset.0)
      (subst (λ k. MayBeLive b w.element o.at k) (same_number o.order order rest.0) it))

  live_from : (at order j : ℕ) (g : Variable)
      → slice_get vs j ≡ Some g
      → MayBeLive b g at order
      → lives at order j ≡ true
  live_from at order j g there m =
      let it = (tells.of_group j g there m.is_live.is_group_variable).kept m.list m.there m.reaches in
      let o = m.there in
      any_at (at_node at order j) os it.node o it.is_node
      (any_at (at_place at order j it.node o) vs j g there
      (and_from (is_live_group g (groups j it.node)) (is_same_place o.at o.order j at order j)
      (and_from (is_group (Some g.kind)) (groups j it.node (in_state live))
      (is_group_kind g.kind m.is_live.is_group_variable)
      (sym (ap (groups j it.node) m.is_live.is_live) ∙ it.is_marked))
      (and_from (o.at == at) ((o.order == order) && (j == j)) (is_same o.at at m.same_offset)
      (and_from (o.order == order) (j == j) (is_same o.order order m.same_order) (is_same j j refl)))))

  -- a test that agrees with what the table tells, over variables and nodes that are the same
  pub lives_told : (us : List Variable) → us ≡ b.variables
      → (ns : List (Occurrence Event)) → ns ≡ nodes b.code
      → (has : ℕ → ℕ → ℕ → Bool)
      → ((at order j : ℕ) → has at order j ≡ is_live_there us groups ns at order j)
      → TellsLives b (λ place j. has place.at place.order j)
  lives_told us same_variables ns same_nodes has agrees n j o g here there =
      let same : has o.at o.order j ≡ lives o.at o.order j =
      agrees o.at o.order j
      ∙ (λ i. is_live_there (same_variables i) groups (same_nodes i) o.at o.order j) in (
        λ e. live_there o.at o.order j g there (sym same ∙ e),
        λ m. same ∙ live_from o.at o.order j g there m,
      )
