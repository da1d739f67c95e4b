-- Locals that are sorted by name and the start of their block.
use Rattle.std.proofs.Common.{◌≡◌, ◌≤◌, ℕ, ◌+◌, Bool, false, suc, List, [], ◌∷◌, get_or, All, sym, ap, ◌∙◌, subst, refl, inl, inr, arith}
use Rattle.std.specs.Ordering.{nat_cmp, ordering_then, ordering_reverse, is_lt, is_eq}
use Rattle.std.specs.declared.cmp.Ordering.TheVariants.{the_data as Ordering, Less, Equal, Greater}
use Rattle.std.specs.Cmp.{IsTotalOrder, then_total, on_total, nat_cmp_total}
use Rattle.std.specs.Cmp.Lexicographic.{slice_cmp, on_texts, same_text}
use Rattle.std.specs.List.Sorted.{IsSortedByKey}
use Rattle.std.proofs.lemmas.Cmp.{ranked, nat_list_cmp_total}
use Rattle.std.proofs.lemmas.Map.Text.{is_eq-slice_cmp}
use Rattle.std.proofs.lemmas.List.Sorted.{sorted_far, ranks_by}
use Rattle.std.proofs.lemmas.List.Kept.{AllPairs-cons}
use Rattle.std.proofs.lemmas.List.Elements.{All-map, All-from_get_or}
use Rattle.scopes.specs.declared.naming.LocalName.{LocalName as KeptLocal}
use Rattle.scopes.specs.Views.{local_view}
use Rattle.names.proofs.FirstLocals.{Key, key_of}
use Rattle.names.specs.Ordered.{AreOrdered, IsNotAfter, locals_view}

abbrev pub key_cmp : Key → Key → Ordering
key_cmp a b = ordering_then (slice_cmp nat_cmp a.0.now b.0.now) (nat_cmp a.1 b.1)

key_total : IsTotalOrder key_cmp
key_total = then_total (on_texts (λ k. k.0.now)) (on_total (λ k. k.1) nat_cmp_total)

at_most : (m n : ℕ) → is_lt (nat_cmp n m) ≡ false → m ≤ n
at_most m n h = by (nat_cmp n m) refl h
  where
    by : (o : Ordering) → nat_cmp n m ≡ o → is_lt o ≡ false → m ≤ n
    by Less e k = cc
    by Equal e k = let q = ranked n m Equal (sym e) in omega (arith, q)
    by Greater e k = let q = ranked n m Greater (sym e) in omega (arith, q)

not_after : (l m : KeptLocal) → is_lt (key_cmp (key_of m) (key_of l)) ≡ false → IsNotAfter (local_view l) (local_view m)
not_after l m h = by (slice_cmp nat_cmp l.name.now m.name.now) refl
  where
    back : slice_cmp nat_cmp m.name.now l.name.now ≡ ordering_reverse (slice_cmp nat_cmp l.name.now m.name.now)
    back = nat_list_cmp_total.antisymm m.name.now l.name.now

    -- the test once it is known how the names compare
    tested : (o : Ordering) → slice_cmp nat_cmp l.name.now m.name.now ≡ o
        → is_lt (ordering_then (ordering_reverse o) (nat_cmp m.block.start l.block.start)) ≡ false
    tested o e = sym (ap (λ p. is_lt (ordering_then p (nat_cmp m.block.start l.block.start))) (back ∙ ap ordering_reverse e)) ∙ h

    by : (o : Ordering) → slice_cmp nat_cmp l.name.now m.name.now ≡ o → IsNotAfter (local_view l) (local_view m)
    by Less e = inl e
    by Equal e =
        let names = same_text l.name.now m.name.now (sym (ap is_eq e) ∙ is_eq-slice_cmp l.name.now m.name.now) in
        inr (names, at_most l.block.start m.block.start (tested Equal e))
    by Greater e = let bad = tested Greater e in cc

pub ordered_from_sorted : (xs : List KeptLocal) → IsSortedByKey key_of key_cmp xs → AreOrdered (locals_view xs)
ordered_from_sorted [] h = λ i j d l k. absurd (omega (arith, k))
ordered_from_sorted (x ∷ xs) h =
    AllPairs-cons IsNotAfter (local_view x) (locals_view xs) (All-map (IsNotAfter (local_view x)) local_view xs first) (ordered_from_sorted xs rest)
  where
    lt : KeptLocal → KeptLocal → Bool
    lt l m = is_lt (key_cmp (key_of l) (key_of m))

    first : All (λ m. IsNotAfter (local_view x) (local_view m)) xs
    first =
        All-from_get_or (λ m. IsNotAfter (local_view x) (local_view m)) xs x λ i l.
        not_after x (get_or xs i x) (sorted_far lt (ranks_by key_total key_of) (x ∷ xs) h 0 (suc i) x (omega arith) (omega (arith, l)))

    rest : IsSortedByKey key_of key_cmp xs
    rest k d low high =
        let next : suc k + 1 ≡ suc (k + 1) = omega arith in
        subst (λ n. lt (get_or (x ∷ xs) n d) (get_or xs k d) ≡ false) next (h (suc k) d (omega arith) (omega (arith, high)))
