use Rattle.std.proofs.Common.{subst}
use Rattle.std.specs.Prelude.{Decides}
use Rattle.std.specs.List.{IsDistinct}
use Rattle.std.specs.Ordering.{eq_by_cmp}
use Rattle.table_json.specs.Tables.{by_bytes}
use Rattle.declared_json.proofs.order.are_apart.Goals as goal

pub returns : goal.returns
returns c =
    subst (λ ks. Decides c.are_distinct.result (IsDistinct (eq_by_cmp by_bytes) ks)) c.in_ok-paths.ensures
    c.are_distinct.ensures
