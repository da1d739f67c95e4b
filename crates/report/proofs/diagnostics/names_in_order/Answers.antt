use Rattle.std.proofs.Common.{Contains, subst}
use Rattle.std.proofs.lemmas.List.Filters.{dedup_is}
use Rattle.report.specs.Entries.{texts_of}
use Rattle.report.proofs.NameOrder.{names_sorted, names_complete, names_sound}
use Rattle.report.proofs.diagnostics.names_in_order.Goals as goal

pub returns-clause-sorted : goal.returns-clause-sorted
returns-clause-sorted c =
    rw (dedup_is _ _ _ c.dedup.ensures.filtered) (names_sorted _ _ c.sort_unstable.ensures.permutation c.sort_unstable.ensures.sorted)

pub returns-clause-same : goal.returns-clause-same
returns-clause-same c = λ x.
    (λ h. names_sound _ _ c.sort_unstable.ensures.permutation x (subst (λ l. Contains (texts_of l) x) (dedup_is _ _ _ c.dedup.ensures.filtered) h), λ h. rw (dedup_is _ _ _ c.dedup.ensures.filtered) (names_complete _ _ c.sort_unstable.ensures.permutation x h))
