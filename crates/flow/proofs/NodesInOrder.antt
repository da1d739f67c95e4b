-- Nodes that are sorted by their offset, their order there, and from the greatest number down.
use Rattle.std.proofs.Common.{◌≡◌, ◌<◌, ◌≤◌, ◌⊎◌, ℕ, ◌+◌, Bool, false, suc, List, [], ◌∷◌, get_or, All, sym, ap, ◌∙◌, subst, refl, inl, inr, arith}
use Rattle.std.specs.Ordering.{nat_cmp, ordering_then, is_lt}
use Rattle.std.specs.declared.cmp.Reverse.{Reverse}
use Rattle.std.specs.declared.cmp.Ordering.TheVariants.{the_data as Ordering, Less, Equal, Greater}
use Rattle.std.specs.Cmp.{IsTotalOrder, then_total, on_total, nat_cmp_total}
use Rattle.std.specs.List.Sorted.{IsSortedByKey}
use Rattle.std.proofs.lemmas.Cmp.{ranked, back_total}
use Rattle.std.proofs.lemmas.List.Sorted.{sorted_far, ranks_by}
use Rattle.std.proofs.lemmas.List.Kept.{AllPairs-cons}
use Rattle.std.proofs.lemmas.List.Elements.{All-from_get_or}
use Rattle.flow.specs.declared.order.NodePlace.{NodePlace}
use Rattle.flow.specs.NodeOrder.{IsNotAfter, AreInOrder}

abbrev pub Key : Type 0
Key = ℕ × ℕ × Reverse ℕ

abbrev pub key_of : NodePlace → Key
key_of p = (p.at, p.order, record { 0 = p.node })

abbrev pub key_cmp : Key → Key → Ordering
key_cmp a b = ordering_then (ordering_then (nat_cmp a.0 b.0) (nat_cmp a.1 b.1)) (nat_cmp b.2.0 a.2.0)

key_total : IsTotalOrder key_cmp
key_total =
    then_total (then_total (on_total (λ k. k.0) nat_cmp_total) (on_total (λ k. k.1) nat_cmp_total))
    (on_total (λ k. k.2.0) (back_total nat_cmp_total))

at_most : (m n : ℕ) → is_lt (nat_cmp n m) ≡ false → m ≤ n
at_most m n h = by (nat_cmp n m) refl h
  where
    by : (o : Ordering) → nat_cmp n m ≡ o → is_lt o ≡ false → m ≤ n
    by Less e k = cc
    by Equal e k = let q = ranked n m Equal (sym e) in omega (arith, q)
    by Greater e k = let q = ranked n m Greater (sym e) in omega (arith, q)

not_behind : (p q : NodePlace) → is_lt (ordering_then (nat_cmp q.order p.order) (nat_cmp p.node q.node)) ≡ false
    → (p.order < q.order) ⊎ ((p.order ≡ q.order) × (q.node ≤ p.node))
not_behind p q h = by (nat_cmp q.order p.order) refl
  where
    tested : (o : Ordering) → nat_cmp q.order p.order ≡ o → is_lt (ordering_then o (nat_cmp p.node q.node)) ≡ false
    tested o e = sym (ap (λ r. is_lt (ordering_then r (nat_cmp p.node q.node))) e) ∙ h

    by : (o : Ordering) → nat_cmp q.order p.order ≡ o → (p.order < q.order) ⊎ ((p.order ≡ q.order) × (q.node ≤ p.node))
    by Less e = let bad = tested Less e in cc
    by Equal e =
        let same = ranked q.order p.order Equal (sym e) in
        inr (omega (arith, same), at_most q.node p.node (tested Equal e))
    by Greater e = let more = ranked q.order p.order Greater (sym e) in inl (omega (arith, more))

not_after : (p q : NodePlace) → is_lt (key_cmp (key_of q) (key_of p)) ≡ false → IsNotAfter p q
not_after p q h = by (nat_cmp q.at p.at) refl
  where
    tested : (o : Ordering) → nat_cmp q.at p.at ≡ o
        → is_lt (ordering_then (ordering_then o (nat_cmp q.order p.order)) (nat_cmp p.node q.node)) ≡ false
    tested o e =
        sym (ap (λ r. is_lt (ordering_then (ordering_then r (nat_cmp q.order p.order)) (nat_cmp p.node q.node))) e) ∙ h

    by : (o : Ordering) → nat_cmp q.at p.at ≡ o → IsNotAfter p q
    by Less e = let bad = tested Less e in cc
    by Equal e = let same = ranked q.at p.at Equal (sym e) in inr (omega (arith, same), not_behind p q (tested Equal e))
    by Greater e = let more = ranked q.at p.at Greater (sym e) in inl (omega (arith, more))

pub ordered_from_sorted : (ps : List NodePlace) → IsSortedByKey key_of key_cmp ps → AreInOrder ps
ordered_from_sorted [] h = λ i j d l k. absurd (omega (arith, k))
ordered_from_sorted (p ∷ ps) h = AllPairs-cons IsNotAfter p ps first (ordered_from_sorted ps rest)
  where
    lt : NodePlace → NodePlace → Bool
    lt l m = is_lt (key_cmp (key_of l) (key_of m))

    first : All (λ q. IsNotAfter p q) ps
    first =
        All-from_get_or (λ q. IsNotAfter p q) ps p λ i l.
        not_after p (get_or ps i p) (sorted_far lt (ranks_by key_total key_of) (p ∷ ps) h 0 (suc i) p (omega arith) (omega (arith, l)))

    rest : IsSortedByKey key_of key_cmp ps
    rest k d low high =
        let next : suc k + 1 ≡ suc (k + 1) = omega arith in
        subst (λ n. lt (get_or (p ∷ ps) n d) (get_or ps k d) ≡ false) next (h (suc k) d (omega arith) (omega (arith, high)))
