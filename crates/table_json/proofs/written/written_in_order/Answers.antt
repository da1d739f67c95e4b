use Rattle.std.proofs.Common.{rules, map, subst, IsPermutation, Bor, string_bytes}
use Rattle.std.proofs.lemmas.Cmp.{nat_list_cmp_total}
use Rattle.std.proofs.lemmas.List.Sorted.{answers_always, ranks_by, IsPermutation-map}
use Rattle.std.specs.Ordering.{is_lt}
use Rattle.table_json.specs.declared.table.Function.{Function}
use Rattle.table_json.specs.Tables.{Entry, by_bytes, entry_of, name_of}
use Rattle.table_json.proofs.WrittenInOrder.{sorted_seen}
use Rattle.table_json.proofs.written.written_in_order.Goals as goal

abbrev seen : Bor Function → Entry
seen f = entry_of f.now

pub returns : goal.returns
returns c = record {
  same =
      subst (λ xs. IsPermutation xs (map seen c.sort_unstable_by.new.self.items)) c.in_ok-told.ensures
      (IsPermutation-map seen _ _ c.sort_unstable_by.ensures.permutation);
  in_order =
      sorted_seen by_bytes seen name_of _
      (c.sort_unstable_by.ensures.sorted (λ x y. is_lt (by_bytes (string_bytes x.now.name) (string_bytes y.now.name)))
      (ranks_by nat_list_cmp_total (λ (f : Bor Function). name_of (seen f)))
      (answers_always _ _ _ λ f a r u h. search rules));
}
