-- The rows of a body are those of its least certificate.
use Rattle.std.proofs.Common.{◌≡◌, ℕ, ◌+◌, Bool, true, false, List, [], ◌∷◌, length, map, Some, None, refl, sym, ap, ◌∙◌, subst, arith, true≢false}
use Rattle.std.proofs.lemmas.Bool.{and_parts, eqb-true}
use Rattle.std.proofs.lemmas.Option.{none-some}
use Rattle.std.specs.Prelude.{◌==◌, not, ◌&&◌, is_some, slice_get}
use Rattle.bodies.specs.AtNodes.{ClassifiesNodes}
use Rattle.bodies.specs.Bodies.{has_paths, IsOrderedGraph, TellsBody}
use Rattle.bodies.specs.NodeEvents.{node_event_view, changed}
use Rattle.bodies.specs.declared.body.Body.{Body as KeptBody}
use Rattle.bodies.specs.declared.graph.BodyGraph.{BodyGraph as KeptGraph}
use Rattle.bodies.specs.declared.node.NodeEvent.{NodeEvent}
use Rattle.certificates.proofs.MadeRows.{made_least}
use Rattle.certificates.specs.Least.{IsLeastOf}
use Rattle.certificates.specs.Rows.{Vec, arriving, rows_view, TellRows}
use Rattle.checker.specs.Certificates.{groups_with_bits}
use Rattle.flow.specs.GraphOfCode.{nodes}
use Rattle.flow.specs.GraphViews.{occurrences_of}
use Rattle.flow.specs.NodeOrder.{places}
use Rattle.flow.specs.Walks.{Graph}
use Rattle.meaning.specs.BodyEvents.{Variable, variables_of, unfollowed_faults}
use Rattle.meaning.specs.Classes.{CancelClass, GroupClass}
use Rattle.meaning.specs.Code.{Occurrence}
use Rattle.meaning.specs.Mentions.{BodyPlace}
use Rattle.meaning.specs.Uses.{Event, Seen, UseFault}
use Rattle.meaning_packages.specs.PathFaults.{Paths}
use Rattle.std.specs.List.Sorted.{IsPermutation}

-- where the nodes stand, whatever they do
places_same : (n : ℕ) (os : List (Occurrence NodeEvent)) → places n (map (changed node_event_view) os) ≡ places n os
places_same n [] = refl
places_same n (o ∷ os) = ap (λ ps. record { at = o.at; order = o.order; node = n } ∷ ps) (places_same (n + 1) os)

none_of : {A : Type 0} (xs : List A) → (length xs == 0) ≡ true → xs ≡ []
none_of [] e = refl
none_of (x ∷ xs) e = absurd (omega (arith, eqb-true (length (x ∷ xs)) 0 e))

not_so : (b : Bool) → not b ≡ false → b ≡ true
not_so true e = refl
not_so false e = absurd (true≢false e)

-- the rows of a body of these paths, with such a graph, by a table of its classes
module _ (paths : Paths) (kept : KeptGraph) (ordered : IsOrderedGraph paths.code kept)
    (cancels : ℕ → ℕ → CancelClass → Bool) (groups : ℕ → ℕ → GroupClass → Bool)
    (classifies : ClassifiesNodes paths.code paths.promises paths.variables cancels groups) where
  same_places : places 0 (nodes paths.code) ≡ places 0 (occurrences_of kept.graph.nodes.items)
  same_places =
      sym (ap (λ (g : Graph Event). places 0 g.nodes) ordered.is_graph)
      ∙ places_same 0 (occurrences_of kept.graph.nodes.items)

  pub made_rows : (rows : List (Vec ℕ)) (vs : List Variable)
      → vs ≡ paths.variables
      → TellRows (arriving cancels groups (groups_with_bits vs)) vs kept.order.items rows
      → IsLeastOf paths (rows_view rows)
  made_rows rows vs same told = record {
    order = kept.order.items;
    has_each = has_each;
    ordered = ordered.ordered;
    is_least = λ claims.
        made_least paths kept.order.items claims cancels groups rows has_each classifies
        (subst (λ vs. TellRows (arriving cancels groups (groups_with_bits vs)) vs kept.order.items rows) same told);
  }
    where
      has_each : IsPermutation (places 0 (nodes paths.code)) kept.order.items
      has_each = subst (λ ps. IsPermutation ps kept.order.items) (sym same_places) ordered.same

-- A body of a file

module _ (file : ℕ) (seen : Seen) (b : BodyPlace) (body : KeptBody) (tells : TellsBody file seen b body) where
  -- the paths of a body with a graph are followed
  pub followed_with : (kept : KeptGraph) → body.graph ≡ Some kept → unfollowed_faults seen b ≡ []
  followed_with kept is =
      let has : has_paths seen b ≡ true = sym tells.has_graph ∙ ap is_some is in
      none_of (unfollowed_faults seen b)
      (and_parts (not (length (variables_of seen b.at) == 0)) (length (unfollowed_faults seen b) == 0) has).1

  pub followed_unless : body.is_unfollowed ≡ false → unfollowed_faults seen b ≡ []
  followed_unless unset =
      none_of (unfollowed_faults seen b)
      (not_so (length (unfollowed_faults seen b) == 0) (sym tells.unfollowed ∙ unset))

  pub not_followed : body.is_unfollowed ≡ true → unfollowed_faults seen b ≡ [] → ⊥
  not_followed set none =
      true≢false (sym set ∙ tells.unfollowed ∙ ap (λ (fs : List UseFault). not (length fs == 0)) none)

  -- one without a graph, whose paths are followed, has no variables
  pub none_without : body.graph ≡ None → body.is_unfollowed ≡ false → variables_of seen b.at ≡ []
  none_without is unset =
      none_of (variables_of seen b.at)
      (not_so (length (variables_of seen b.at) == 0)
      (and_false_by (not (length (variables_of seen b.at) == 0))
      (length (unfollowed_faults seen b) == 0) (ap (λ (fs : List UseFault). length fs == 0) (followed_unless unset))
      (sym tells.has_graph ∙ ap is_some is)))
    where
      and_false_by : (x y : Bool) → y ≡ true → (x && y) ≡ false → x ≡ false
      and_false_by true y so e = absurd (true≢false (sym so ∙ e))
      and_false_by false y so e = refl

-- a body without variables has no classes
pub no_classes : (paths : Paths) (cancels : ℕ → ℕ → CancelClass → Bool) (groups : ℕ → ℕ → GroupClass → Bool)
    → paths.variables ≡ []
    → ClassifiesNodes paths.code paths.promises paths.variables cancels groups
no_classes paths cancels groups none = record {
  of_cancel = λ i v at. absurd (none-some v (ap (λ vs. slice_get vs i) (sym none) ∙ at));
  of_group = λ i v at. absurd (none-some v (ap (λ vs. slice_get vs i) (sym none) ∙ at));
}
