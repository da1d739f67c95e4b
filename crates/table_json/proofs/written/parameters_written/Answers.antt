use Rattle.std.proofs.Common.{rules, subst, IsPermutation}
use Rattle.std.proofs.lemmas.List.Sorted.{answers_always}
use Rattle.table_json.specs.Tables.{position_of}
use Rattle.table_json.proofs.written.parameters_written.Goals as goal

pub returns : goal.returns
returns c = record {
  same =
      subst (λ xs. IsPermutation xs c.sort_unstable_by_key.new.self.items) c.in_ok-written.ensures.items
      c.sort_unstable_by_key.ensures.permutation;
  in_order = c.sort_unstable_by_key.ensures.sorted position_of (answers_always _ _ _ λ f a r u h. search rules);
}
