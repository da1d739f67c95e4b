use Rattle.std.proofs.Common.{rules}
use Rattle.std.proofs.lemmas.Fn.{always_returns_same}
use Rattle.std.proofs.lemmas.List.Sorted.{ranks_by}
use Rattle.std.specs.String.{string_cmp_total}
use Rattle.load.specs.FilesByName.{comes_before}
use Rattle.load.proofs.package.by_name.Goals as goal

pub returns : goal.returns
returns c =
    let order = ranks_by string_cmp_total (λ s. s.name) in
    let compares = always_returns_same _ _ _ (λ a r f k. search rules) in
    record {
      same = c.sort_by.ensures.permutation;
      sorted = c.in_ok-sort_by.ensures.sorted comes_before order compares;
      stable = c.sort_by.ensures.stable comes_before order compares;
    }
