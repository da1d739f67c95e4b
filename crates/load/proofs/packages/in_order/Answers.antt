use Rattle.std.proofs.lemmas.Result.{IfOk-weaker}
use Rattle.load.proofs.packages.in_order.Goals as goal

pub returns : goal.returns
returns c =
    IfOk-weaker c.order_files.result _ _ (λ ordered by_name. record {
      in_order = c.sort_keys.new.self.entries;
      same = c.sort_keys.ensures.reordered.0;
      sorted = c.in_ok-sort_keys.ensures.sorted;
      distinct = c.sort_keys.ensures.unique;
      by_name = by_name;
    }) c.order_files.ensures
