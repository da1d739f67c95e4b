use Rattle.std.proofs.Common.{◌↔◌, Contains, List, ℕ, subst}
use Rattle.way_notes.proofs.offsets.offsets_of.Goals as goal

pub returns : goal.returns
returns c = record {
  ordered = c.in_order.ensures.ordered;
  same = λ at. subst (λ (l : List ℕ). Contains c.in_order.result.items at ↔ Contains l at) c.in_ok-offsets_at.ensures (c.in_order.ensures.same at);
}
