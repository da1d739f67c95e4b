use Rattle.std.proofs.Common.{◌≤◌, length, subst, sym}
use Rattle.vetx_tables.proofs.KeptFunctions.{count_within}
use Rattle.vetx_tables.proofs.again.results_by_position.Goals as goal

pub split_at-requires : goal.split_at-requires
split_at-requires c =
    let left = c.loop-position.left.now in
    subst (λ n. n ≤ length left) (sym c.count_below.ensures) (count_within _ left)
