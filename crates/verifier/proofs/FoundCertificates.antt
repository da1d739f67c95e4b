-- What is found of a body's certificate, by way of its graph in memory.
use Rattle.std.proofs.Common.{◌≡◌, ℕ, ◌+◌, Bool, true, false, List, [], ◌∷◌, length, map, Option, Some, None, refl, sym, ap, ◌∙◌, subst}
use Rattle.std.specs.Prelude.{◌↔◌, IsTrue, is_some}
use Rattle.std.specs.List.Sorted.{IsPermutation}
use Rattle.std.proofs.lemmas.Bool.{false≢true}
use Rattle.std.proofs.lemmas.Option.{same_Some}
use Rattle.credits.proofs.SettledBodies.{paths_there}
use Rattle.path_faults.proofs.Places.{contains_at}
use Rattle.bodies.specs.Bodies.{IsOrderedGraph, code_in, TellsBody}
use Rattle.bodies.specs.NodeEvents.{node_event_view, changed, events_graph}
use Rattle.bodies.specs.declared.body.Body.{Body as KeptBody}
use Rattle.bodies.specs.declared.graph.BodyGraph.{BodyGraph as KeptGraph}
use Rattle.bodies.specs.declared.node.NodeEvent.{NodeEvent}
use Rattle.calls_flags.specs.Claims.{function_name}
use Rattle.checker.specs.Certificates.{CheckedBody, Holds, SettlesIn}
use Rattle.checker.specs.LaidOutViews.{IsLaidOut, LaysOut, body_of}
use Rattle.checker.specs.declared.laid_out.LaidOut.{LaidOut}
use Rattle.credits.specs.CreditViews.{is_among}
use Rattle.events.specs.VariableViews.{variable_view}
use Rattle.flow.specs.GraphOfCode.{nodes}
use Rattle.flow.specs.GraphViews.{occurrences_of}
use Rattle.flow.specs.NodeOrder.{places}
use Rattle.flow.specs.Walks.{Graph}
use Rattle.meaning.specs.BodyEvents.{unfollowed_faults, variables_of}
use Rattle.meaning.specs.Code.{Occurrence}
use Rattle.meaning.specs.Mentions.{BodyPlace}
use Rattle.meaning.specs.Uses.{Callee, Event, Seen}
use Rattle.meaning_packages.specs.CallsFlags.{Flags}
use Rattle.meaning_packages.specs.Credits.{Credits, promises_in}
use Rattle.meaning_packages.specs.PathFaults.{Paths, paths_of}
use Rattle.tree.specs.declared.edition.Edition.{Edition}
use Rattle.verifier.proofs.OneOrder.{one_order}
use Rattle.verifier.specs.FoundBodies.{with_table, IsFound, IsFoundReliedOn}
use Rattle.verifier.specs.ReliedOn.{AreLeftIf}
use Rattle.verifier.specs.SettledPlaces.{SettlesSome}
use Rattle.verifier.specs.Verified.{Given, flags_of_name, flags_of_body, IsOrder, checked, IsCertified, SettlesBy}

-- the places of nodes are the same for other events
same_places : (n : ℕ) (os : List (Occurrence NodeEvent)) → places n (map (changed node_event_view) os) ≡ places n os
same_places n [] = refl
same_places n (o ∷ os) = ap (λ ps. record { at = o.at; order = o.order; node = n } ∷ ps) (same_places (n + 1) os)

module _ (given : Given) (own : Flags) (calls : Callee → ℕ → Bool) (number : ℕ) (seen : Seen) (credits : Credits)
    (b : BodyPlace) (followed : unfollowed_faults seen b ≡ []) (rows : List (List ℕ))
    (are_given : given.rows number b.at ≡ Some rows) (kept : KeptGraph) (is : IsOrderedGraph (code_in seen b) kept) where
  abbrev paths : Paths
  paths = paths_of seen (promises_in calls credits b.at) b

  abbrev body : CheckedBody
  body = checked paths (flags_of_body own b) kept.order.items

  nodes_are : places 0 (occurrences_of kept.graph.nodes.items) ≡ places 0 (nodes paths.code)
  nodes_are =
      sym (same_places 0 (occurrences_of kept.graph.nodes.items)) ∙ ap (λ (g : Graph Event). places 0 g.nodes) is.is_graph

  is_order : IsOrder paths kept.order.items
  is_order = record {
    same = subst (λ ps. IsPermutation ps kept.order.items) nodes_are is.same;
    ordered = is.ordered;
  }

  certified : Holds body rows → IsCertified given own calls number (with_table seen credits) b
  certified h = record {
    rows = rows;
    order = kept.order.items;
    is_followed = followed;
    are_given = are_given;
    is_order = is_order;
    holds = h;
  }

  module _ (c : IsCertified given own calls number (with_table seen credits) b) where
    same_rows : c.rows ≡ rows
    same_rows = same_Some c.rows rows (sym c.are_given ∙ are_given)

    same_order : c.order ≡ kept.order.items
    same_order =
        one_order (nodes paths.code) c.order kept.order.items c.is_order.same c.is_order.ordered is_order.same
        is_order.ordered

    its_holds : Holds body rows
    its_holds =
        subst (λ o. Holds (checked paths (flags_of_body own b) o) rows) same_order
        (subst (λ r. Holds (checked paths (flags_of_body own b) c.order) r) same_rows c.holds)

  -- there are more rows than nodes, or fewer
  pub not_as_many : (count size : ℕ) → count ≡ length rows → size ≡ length kept.order.items → (count ≡ size → ⊥)
      → IsFound given own calls number (with_table seen credits) b None
  not_as_many count size many nodes apart c = apart (many ∙ (its_holds c).has_rows.are_as_many ∙ sym nodes)

  settled_so : Holds body rows → (variable : ℕ) → SettlesSome body rows variable
      → SettlesBy given own calls number (with_table seen credits) b variable
  unfolding certified
  settled_so h variable s = record {
    certified = certified h;
    place = s.place;
    found = s.settles.found;
    is_of_body = s.settles.is_there;
    is_captured = s.settles.is_captured;
    is_it = s.settles.is_it;
    settles = s.settles.settles;
  }

  settles_so : (variable : ℕ) → SettlesBy given own calls number (with_table seen credits) b variable
      → SettlesSome body rows variable
  settles_so variable h = record {
    place = h.place;
    settles = record {
      found = h.found;
      is_there = h.is_of_body;
      is_captured = h.is_captured;
      is_it = h.is_it;
      settles =
          subst (λ o. SettlesIn (checked paths (flags_of_body own b) o) rows h.place h.found) (same_order h.certified)
          (subst (λ r. SettlesIn (checked paths (flags_of_body own b) h.certified.order) r h.place h.found)
          (same_rows h.certified) h.settles);
    };
  }

  -- in memory
  module _ (there : CheckedBody) (same : there ≡ body) (result : Bool) (tests : IsTrue result ↔ Holds there rows) where
    pub found_none : result ≡ false → IsFound given own calls number (with_table seen credits) b None
    found_none e c =
        let yes = tests.1 (subst (λ x. Holds x rows) (sym same) (its_holds c)) in
        let bad : true ≡ false = sym yes ∙ e in
        cc

    pub found_some : result ≡ true → (numbers : List ℕ)
        → ((variable : ℕ) → (is_among numbers variable ≡ true) ↔ SettlesSome there rows variable)
        → IsFound given own calls number (with_table seen credits) b (Some numbers)
    found_some e numbers settled =
        let h = subst (λ x. Holds x rows) same (tests.0 e) in (
          certified h,
          λ variable. (
            λ k. settled_so h variable (subst (λ x. SettlesSome x rows variable) same ((settled variable).0 k)),
            λ k. (settled variable).1 (subst (λ x. SettlesSome x rows variable) (sym same) (settles_so variable k)),
          ),
        )

-- the body that is laid out
module _ (seen : Seen) (b : BodyPlace) (number : ℕ) (told : KeptBody) (tells : TellsBody number seen b told)
    (kept : KeptGraph) (is : IsOrderedGraph (code_in seen b) kept) (laid : LaidOut) (edition : Edition) where
  pub laid_so : LaysOut edition told.variables.items kept laid → IsLaidOut laid
  laid_so lays = lays.is_laid_out is.same

  pub same_body : LaysOut edition told.variables.items kept laid
      → edition ≡ seen.known.edition
      → (own : Flags) (calls : Callee → ℕ → Bool) (credits : Credits) (name : Option (List ℕ))
      → name ≡ function_name b
      → body_of laid (promises_in calls credits told.place.at) (flags_of_name own name)
      ≡ checked (paths_of seen (promises_in calls credits b.at) b) (flags_of_body own b) kept.order.items
  same_body lays is_edition own calls credits name is_name = λ i. record {
    edition = (lays.is_edition ∙ is_edition) i;
    graph = (ap (λ (k : KeptGraph). events_graph k.graph) lays.is_kept ∙ is.is_graph) i;
    order = ap (λ (k : KeptGraph). k.order.items) lays.is_kept i;
    variables = (ap (map variable_view) lays.are_variables ∙ tells.are_variables) i;
    promises = ap (λ (p : BodyPlace). promises_in calls credits p.at) tells.is_place i;
    is_claimed = ap (flags_of_name own) is_name i;
  }

-- For what it is relied on

module _ (given : Given) (own : Flags) (calls : Callee → ℕ → Bool) (number : ℕ) (seen : Seen) (credits : Credits)
    (b : BodyPlace) where
  pub relied_found : (found left : Option (List ℕ)) → IsFound given own calls number (with_table seen credits) b found
      → AreLeftIf seen b found left
      → IsFoundReliedOn given own calls number (with_table seen credits) b left
  relied_found None None none are = none
  relied_found None (Some left) none are = absurd are
  relied_found (Some settled) None some are = absurd are
  relied_found (Some settled) (Some left) some are = (
    some.0,
    λ variable. (
      λ e.
          let it = (are variable).0 e in
          record {
            settles = (some.1 variable).0 it.is_one;
            binds_none = it.binds_none;
            comes_back = it.comes_back;
          },
      λ h. (are variable).1 record {
        is_one = (some.1 variable).1 h.settles;
        binds_none = h.binds_none;
        comes_back = h.comes_back;
      },
    ),
  )

  -- a body without variables settles none
  pub none_found : (file : ℕ) (body : KeptBody) → TellsBody file seen b body → body.graph ≡ None
      → unfollowed_faults seen b ≡ []
      → (found : Option (List ℕ))
      → IsFound given own calls number (with_table seen credits) b found
      → IsFoundReliedOn given own calls number (with_table seen credits) b found
  none_found file body tells none followed None found = found
  none_found file body tells none followed (Some settled) found = (
    found.0,
    λ variable. (
      λ e. absurd (settles_none variable ((found.1 variable).0 e)),
      λ h. absurd (settles_none variable h.settles),
    ),
  )
    where
      settles_none : (variable : ℕ) → SettlesBy given own calls number (with_table seen credits) b variable → ⊥
      settles_none variable h =
          false≢true
          (ap is_some (sym none) ∙ tells.has_graph
          ∙ paths_there seen b h.found (contains_at (variables_of seen b.at) h.place h.found h.is_of_body) followed)
