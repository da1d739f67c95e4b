use Rattle.std.proofs.Common.{rules}
use Rattle.std.proofs.lemmas.Cmp.{nat_list_cmp_total}
use Rattle.std.proofs.lemmas.List.Sorted.{answers_always, IsPermutation-sym}
use Rattle.std.specs.Ordering.{is_lt}
use Rattle.table_json.specs.Tables.{by_bytes}
use Rattle.table_json.proofs.Arranged.{distinct_if, twice_if}
use Rattle.table_json.proofs.DistinctTexts.{decides, still_distinct, text_of}
use Rattle.table_json.proofs.order.are_distinct.Goals as goal

pub returns : goal.returns
returns c =
    decides c.is_sorted_by.result
    (λ so. still_distinct _ _ (IsPermutation-sym _ _ c.sort_unstable.ensures.permutation)
    (distinct_if nat_list_cmp_total text_of _ _ c.is_sorted_by.result c.deref.ensures.value
    (c.is_sorted_by.ensures.cases (λ x y. is_lt (by_bytes x.now y.now)) (answers_always _ _ _ λ f a r u h. search rules))
    so))
    (λ so distinct. twice_if nat_list_cmp_total text_of _ _ c.is_sorted_by.result c.sort_unstable.ensures.sorted c.deref.ensures.value
    (c.is_sorted_by.ensures.cases (λ x y. is_lt (by_bytes x.now y.now)) (answers_always _ _ _ λ f a r u h. search rules))
    so (still_distinct _ _ c.sort_unstable.ensures.permutation distinct))
