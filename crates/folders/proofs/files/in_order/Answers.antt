use Rattle.std.proofs.lemmas.List.Filters.{dedup_is}
use Rattle.folders.proofs.GoFiles.{in_order, same_names, still_go}
use Rattle.folders.proofs.files.in_order.Goals as goal

pub returns-clause-ascend : goal.returns-clause-ascend
returns-clause-ascend c =
    in_order _ _ _ c.sort_unstable.ensures.permutation c.sort_unstable.ensures.sorted (dedup_is _ _ _ c.dedup.ensures.filtered)

pub returns-clause-go : goal.returns-clause-go
returns-clause-go c go =
    still_go _ _ _ c.sort_unstable.ensures.permutation (dedup_is _ _ _ c.dedup.ensures.filtered) go

pub returns-clause-same : goal.returns-clause-same
returns-clause-same c name =
    same_names _ _ _ c.sort_unstable.ensures.permutation (dedup_is _ _ _ c.dedup.ensures.filtered) name
