use Rattle.std.proofs.Common.{rules, map, subst, IsPermutation, Bor}
use Rattle.std.proofs.lemmas.List.Sorted.{answers_always, IsPermutation-map}
use Rattle.table_json.proofs.WrittenInOrder.{sorted_seen}
use Rattle.certificate_json.specs.declared.certificates.Body.{Body}
use Rattle.certificate_json.specs.Certificates.{BodyEntry, body_of, by_place, place_of}
use Rattle.certificate_json.proofs.written.bodies_by_place.Goals as goal

abbrev seen : Bor Body → BodyEntry
seen b = body_of b.now

pub returns : goal.returns
returns c = record {
  same =
      subst (λ xs. IsPermutation xs (map seen c.sort_unstable_by_key.new.self.items)) c.in_ok-ordered.ensures
      (IsPermutation-map seen _ _ c.sort_unstable_by_key.ensures.permutation);
  in_order =
      sorted_seen by_place seen place_of _
      (c.sort_unstable_by_key.ensures.sorted (λ (b : Bor Body). place_of (seen b)) (answers_always _ _ _ λ f a r u h. search rules));
}
