use Rattle.std.proofs.Common.{rules, string_bytes}
use Rattle.std.proofs.lemmas.Cmp.{nat_list_cmp_total}
use Rattle.std.proofs.lemmas.List.Sorted.{answers_always, ranks_by, IsPermutation-map}
use Rattle.std.specs.Ordering.{is_lt}
use Rattle.table_json.specs.Tables.{by_bytes}
use Rattle.table_json.proofs.Arranged.{rise_if, none_if, rise_seen, none_seen}
use Rattle.vetx_json.specs.declared.functions.KeptFunction.{KeptFunction}
use Rattle.vetx_json.specs.KeptUnits.{function_of, name_of}
use Rattle.vetx_json.proofs.order.functions_in_order.Goals as goal

pub returns-then-is_sorted_by-clause-some : goal.returns-then-is_sorted_by-clause-some
returns-then-is_sorted_by-clause-some c = record {
  same = IsPermutation-map function_of _ _ c.sort_unstable_by.ensures.permutation;
  rise =
      rise_seen by_bytes function_of name_of _
      (rise_if nat_list_cmp_total (λ (f : KeptFunction). name_of (function_of f)) _ _ c.is_sorted_by.result
      c.deref.ensures.value
      (c.is_sorted_by.ensures.cases (λ x y. is_lt (by_bytes (string_bytes x.facts.name) (string_bytes y.facts.name)))
      (answers_always _ _ _ λ f a r u h. search rules))
      c.if-is_sorted_by.true);
}

pub returns-else-is_sorted_by-clause-none : goal.returns-else-is_sorted_by-clause-none
returns-else-is_sorted_by-clause-none c other =
    none_seen by_bytes function_of name_of _ other
    (none_if nat_list_cmp_total (λ (f : KeptFunction). name_of (function_of f)) _ _ _ c.is_sorted_by.result
    c.sort_unstable_by.ensures.permutation
    (c.sort_unstable_by.ensures.sorted (λ x y. is_lt (by_bytes (string_bytes x.facts.name) (string_bytes y.facts.name)))
    (ranks_by nat_list_cmp_total (λ (f : KeptFunction). name_of (function_of f)))
    (answers_always _ _ _ λ f a r u h. search rules))
    c.deref.ensures.value
    (c.is_sorted_by.ensures.cases (λ x y. is_lt (by_bytes (string_bytes x.facts.name) (string_bytes y.facts.name)))
    (answers_always _ _ _ λ f a r u h. search rules))
    c.if-is_sorted_by.false)
