-- Ways out that are gone over from the innermost.
use Rattle.std.proofs.Common.{◌≡◌, ℕ, ◌+◌, ◌<◌, ◌≤◌, true, false, if◌then◌else◌, List, [], length, get_or, drop, sym, ap, ◌∙◌}
use Rattle.std.proofs.lemmas.List.{at_drop_all}
use Rattle.tree.proofs.Depths.{drop_item}
use Rattle.meaning.specs.Code.{Way}
use Rattle.flow.specs.declared.exits.Destination.{Destination}
use Rattle.flow.specs.GraphViews.{leads_there, exits_view}
use Rattle.flow.proofs.Numbered.{chosen, not_chosen}

module _ (exits : List Destination) (i : ℕ) (e : Destination) (within : i < length exits) (is : e ≡ get_or exits i e) (way : Way) where
  split : exits_view (drop i exits) way ≡ (if leads_there e.ways way then e.next.items else exits_view (drop (i + 1) exits) way)
  split = ap (λ es. exits_view es way) (drop_item exits i e within is)

  pub way_found : (whole next : List ℕ) → exits_view (drop i exits) way ≡ whole → leads_there e.ways way ≡ true → next ≡ e.next.items → next ≡ whole
  way_found whole next so_far t f =
      f ∙ sym (chosen (leads_there e.ways way) e.next.items (exits_view (drop (i + 1) exits) way) t) ∙ sym split ∙ so_far

  pub way_passed : (whole : List ℕ) → exits_view (drop i exits) way ≡ whole → leads_there e.ways way ≡ false → exits_view (drop (i + 1) exits) way ≡ whole
  way_passed whole so_far t =
      sym (not_chosen (leads_there e.ways way) e.next.items (exits_view (drop (i + 1) exits) way) t) ∙ sym split ∙ so_far

pub no_way : (exits : List Destination) (i : ℕ) (way : Way) (whole : List ℕ) → length exits ≤ i → exits_view (drop i exits) way ≡ whole → [] ≡ whole
no_way exits i way whole past so_far = sym (at_drop_all (λ es. exits_view es way) exits i past) ∙ so_far
