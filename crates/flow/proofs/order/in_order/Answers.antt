use Rattle.std.proofs.Common.{rules}
use Rattle.std.proofs.lemmas.List.Sorted.{answers_always}
use Rattle.flow.proofs.NodesInOrder.{key_of, ordered_from_sorted}
use Rattle.flow.proofs.order.in_order.Goals as goal

pub returns-clause-ordered : goal.returns-clause-ordered
returns-clause-ordered g c =
    ordered_from_sorted _ (c.sort_unstable_by_key.ensures.sorted key_of (answers_always _ _ _ λ f a r u h. search rules))
