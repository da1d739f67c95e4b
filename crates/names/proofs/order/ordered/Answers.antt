use Rattle.std.proofs.Common.{rules}
use Rattle.std.proofs.lemmas.List.Sorted.{answers_always}
use Rattle.names.proofs.FirstLocals.{key_of}
use Rattle.names.proofs.LocalOrder.{ordered_from_sorted}
use Rattle.names.proofs.order.ordered.Goals as goal

pub returns-clause-ordered : goal.returns-clause-ordered
returns-clause-ordered c =
    ordered_from_sorted _ (c.sort_unstable_by_key.ensures.sorted key_of (answers_always _ _ _ λ f a r g h. search rules))
