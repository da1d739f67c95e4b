-- What follows one step, as a search adds it.
use Rattle.std.proofs.Common.{◌≡◌, ℕ, suc, ◌+◌, List, [], Some, None, Contains, refl, sym, ap, ◌∙◌, subst, arith}
use Rattle.std.proofs.lemmas.Option.{none-some, same_Some, slice_get-map}
use Rattle.std.specs.Option.{option_map}
use Rattle.std.specs.Prelude.{slice_get}
use Rattle.flow.specs.GraphViews.{graph_view}
use Rattle.flow.specs.declared.graph.Graph.{Graph as KeptGraph}
use Rattle.flow.specs.declared.graph.Node.{Node}
use Rattle.code.specs.CodeViews.{occurrence_view}
use Rattle.meaning.specs.Code.{Occurrence}
use Rattle.meaning.proofs.Membership.{contains_nil}
use Rattle.searches.proofs.Adding.{adds_none}
use Rattle.searches.specs.Searching.{HasRoom, Adds, FollowsStep}
use Rattle.searches.specs.declared.search.Progress.{Progress}
use Rattle.searches.specs.declared.search.Step.{Step}

one_more : (n : ℕ) → n + 1 ≡ suc n
one_more n = omega arith

-- the next step counts as followed
abbrev pub counted : Progress → Progress
counted s = record { steps = s.steps; seen = s.seen; followed = s.followed + 1; nodes = s.nodes }

module _ {E : Type 0} (step : E → ℕ → ℕ) (graph : KeptGraph E) (now : Step) (s : Progress) where
  pub follows_none : HasRoom s
      → slice_get graph.nodes.items now.node ≡ None
      → FollowsStep step (graph_view graph) now s (counted s)
  follows_none room none = record {
    between = counted s;
    is_counted = one_more s.followed;
    same_steps = refl;
    same_seen = refl;
    same_nodes = refl;
    next = [];
    class = 0;
    adds = adds_none 0 (Some s.followed) (counted s) room;
    is_class = λ o ms at links. absurd (none-some o (sym no_node ∙ at));
    leads = λ n there. absurd (contains_nil n there);
  }
    where
      no_node : slice_get (graph_view graph).nodes now.node ≡ None
      no_node =
          slice_get-map (λ (n : Node E). occurrence_view n.occurrence) graph.nodes.items now.node
          ∙ ap (option_map (λ (n : Node E). occurrence_view n.occurrence)) none

  pub follows_next : (node : Node E) (class : ℕ)
      → class ≡ step node.occurrence.event now.class
      → slice_get graph.nodes.items now.node ≡ Some node
      → (next : List ℕ)
      → next ≡ node.next.items
      → (after : Progress)
      → Adds E next class (Some s.followed) (counted s) after
      → FollowsStep step (graph_view graph) now s after
  follows_next node class is_class at next is_next after adds = record {
    between = counted s;
    is_counted = one_more s.followed;
    same_steps = refl;
    same_seen = refl;
    same_nodes = refl;
    next = next;
    class = class;
    adds = adds;
    is_class = λ o ms is links. (
      is_class ∙ ap (λ (p : Occurrence E). step p.event now.class) (same_Some _ o (sym there ∙ is)),
      is_next ∙ same_Some node.next.items ms (sym leads_there ∙ links),
    );
    leads = λ n to. record {
      occurrence = occurrence_view node.occurrence;
      next = node.next.items;
      is_node = there;
      are_next = leads_there;
      leads = subst (λ ns. Contains ns n) is_next to;
      is_class = is_class;
    };
  }
    where
      there : slice_get (graph_view graph).nodes now.node ≡ Some (occurrence_view node.occurrence)
      there =
          slice_get-map (λ (n : Node E). occurrence_view n.occurrence) graph.nodes.items now.node
          ∙ ap (option_map (λ (n : Node E). occurrence_view n.occurrence)) at

      leads_there : slice_get (graph_view graph).next now.node ≡ Some node.next.items
      leads_there =
          slice_get-map (λ (n : Node E). n.next.items) graph.nodes.items now.node
          ∙ ap (option_map (λ (n : Node E). n.next.items)) at
