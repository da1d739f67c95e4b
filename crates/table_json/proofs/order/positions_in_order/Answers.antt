use Rattle.std.proofs.Common.{rules}
use Rattle.std.proofs.lemmas.Cmp.{nat_cmp_total}
use Rattle.std.proofs.lemmas.List.Sorted.{answers_always}
use Rattle.std.specs.Ordering.{is_lt, nat_cmp}
use Rattle.table_json.specs.Tables.{itself}
use Rattle.table_json.proofs.Arranged.{rise_if, none_if, not_arranged}
use Rattle.table_json.proofs.order.positions_in_order.Goals as goal

pub returns-then-is_sorted_by-clause-some : goal.returns-then-is_sorted_by-clause-some
returns-then-is_sorted_by-clause-some c = record {
  same = c.sort_unstable.ensures.permutation;
  rise =
      rise_if nat_cmp_total itself _ _ c.is_sorted_by.result c.deref.ensures.value
      (c.is_sorted_by.ensures.cases (λ x y. is_lt (nat_cmp x y)) (answers_always _ _ _ λ f a r u h. search rules))
      c.if-is_sorted_by.true;
}

pub returns-else-is_sorted_by-clause-none : goal.returns-else-is_sorted_by-clause-none
returns-else-is_sorted_by-clause-none c other =
    not_arranged nat_cmp_total itself _ other
    (none_if nat_cmp_total itself _ _ _ c.is_sorted_by.result c.sort_unstable.ensures.permutation
    c.sort_unstable.ensures.sorted c.deref.ensures.value
    (c.is_sorted_by.ensures.cases (λ x y. is_lt (nat_cmp x y)) (answers_always _ _ _ λ f a r u h. search rules))
    c.if-is_sorted_by.false)
