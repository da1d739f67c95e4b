use Rattle.std.proofs.Common.{rules}
use Rattle.std.proofs.lemmas.List.Sorted.{answers_always, IsPermutation-map}
use Rattle.std.specs.Ordering.{is_lt}
use Rattle.table_json.proofs.Arranged.{rise_if, none_if, rise_seen, none_seen}
use Rattle.certificate_json.specs.declared.certificates.Body.{Body}
use Rattle.certificate_json.specs.Certificates.{body_of, by_place, place_of}
use Rattle.certificate_json.proofs.BodyReadings.{place_total}
use Rattle.certificate_json.proofs.order.bodies_in_order.Goals as goal

pub returns-then-is_sorted_by-clause-some : goal.returns-then-is_sorted_by-clause-some
returns-then-is_sorted_by-clause-some c = record {
  same = IsPermutation-map body_of _ _ c.sort_unstable_by_key.ensures.permutation;
  rise =
      rise_seen by_place body_of place_of _
      (rise_if place_total (λ (b : Body). place_of (body_of b)) _ _ c.is_sorted_by.result c.deref.ensures.value
      (c.is_sorted_by.ensures.cases (λ x y. is_lt (by_place (place_of (body_of x)) (place_of (body_of y))))
      (answers_always _ _ _ λ f a r u h. search rules))
      c.if-is_sorted_by.true);
}

pub returns-else-is_sorted_by-clause-none : goal.returns-else-is_sorted_by-clause-none
returns-else-is_sorted_by-clause-none c other =
    none_seen by_place body_of place_of _ other
    (none_if place_total (λ (b : Body). place_of (body_of b)) _ _ _ c.is_sorted_by.result
    c.sort_unstable_by_key.ensures.permutation
    (c.sort_unstable_by_key.ensures.sorted (λ (b : Body). place_of (body_of b)) (answers_always _ _ _ λ f a r u h. search rules))
    c.deref.ensures.value
    (c.is_sorted_by.ensures.cases (λ x y. is_lt (by_place (place_of (body_of x)) (place_of (body_of y))))
    (answers_always _ _ _ λ f a r u h. search rules))
    c.if-is_sorted_by.false)
