use Rattle.std.proofs.lemmas.List.Filters.{dedup_is}
use Rattle.plain_tables.proofs.PlainNames.{names_so}
use Rattle.plain_tables.proofs.tables.names_in_order.Goals as goal

pub returns : goal.returns
returns c =
    names_so _ _ _ _ c.in_ok-names.ensures c.sort_unstable.ensures.permutation c.sort_unstable.ensures.sorted
    (dedup_is _ _ _ c.dedup.ensures.filtered)
