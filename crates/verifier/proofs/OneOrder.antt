-- The nodes of a graph have one order in the text: no two have one number, so of two that differ one comes first.
use Rattle.std.proofs.Common.{◌≡◌, ℕ, suc, ◌+◌, ◌<◌, ◌≤◌, ◌⊎◌, inl, inr, Bool, true, false, List, [], ◌∷◌, cond, Contains, refl, ap, ◌∙◌, subst, arith}
use Rattle.std.specs.Prelude.{◌==◌}
use Rattle.std.specs.List.{sum_by}
use Rattle.std.specs.List.Sorted.{IsPermutation}
use Rattle.std.proofs.lemmas.Bool.Decides.{Decides-eqb}
use Rattle.std.proofs.lemmas.Bool.{ne_eqb}
use Rattle.std.proofs.lemmas.List.Sums.{sum_by-cons, get_or-le-sum_by}
use Rattle.std.proofs.lemmas.List.Sorted.{IsPermutation-sym, IsPermutation-trans, Contains-permutation, sum_by-IsPermutation}
use Rattle.flow.specs.declared.order.NodePlace.{NodePlace}
use Rattle.flow.specs.NodeOrder.{places, IsNotAfter}
use Rattle.flow.specs.NodeOrder as order
use Rattle.meaning.specs.Code.{Occurrence}
use Rattle.meaning_reports.proofs.EntryOrder.{AreInOrder, one_list}

abbrev Precedes : NodePlace → NodePlace → Type 0
Precedes p q = (p.at < q.at) ⊎ ((p.at ≡ q.at) × ((p.order < q.order) ⊎ ((p.order ≡ q.order) × (q.node < p.node))))

not_both : (p q : NodePlace) → Precedes p q → Precedes q p → ⊥
not_both p q (inl l) (inl m) = omega (arith, l, m)
not_both p q (inl l) (inr m) = let same = m.0 in omega (arith, l, same)
not_both p q (inr l) (inl m) = let same = l.0 in omega (arith, m, same)
not_both p q (inr l) (inr m) = by l.1 m.1
  where
    by : (p.order < q.order) ⊎ ((p.order ≡ q.order) × (q.node < p.node))
        → (q.order < p.order) ⊎ ((q.order ≡ p.order) × (p.node < q.node))
        → ⊥
    by (inl a) (inl b) = omega (arith, a, b)
    by (inl a) (inr b) = let same = b.0 in omega (arith, a, same)
    by (inr a) (inl b) = let same = a.0 in omega (arith, b, same)
    by (inr a) (inr b) = let c = a.1 in let d = b.1 in omega (arith, c, d)

strictly : (p q : NodePlace) → IsNotAfter p q → (q.node ≡ p.node → ⊥) → Precedes p q
strictly p q (inl l) apart = inl l
strictly p q (inr l) apart = inr (l.0, by l.1)
  where
    by : (p.order < q.order) ⊎ ((p.order ≡ q.order) × (q.node ≤ p.node))
        → (p.order < q.order) ⊎ ((p.order ≡ q.order) × (q.node < p.node))
    by (inl a) = inl a
    by (inr a) = inr (a.0, (let b = a.1 in omega (arith, b, apart)))

-- Each number stands once

abbrev is_node : ℕ → NodePlace → ℕ
is_node n p = cond (p.node == n) 1 0

module _ (n : ℕ) where
  its_node : (p : NodePlace) → p.node ≡ n → is_node n p ≡ 1
  its_node p same = ap (λ b. cond b 1 0) ((Decides-eqb p.node n).1 same)

  other_node : (p : NodePlace) → (p.node ≡ n → ⊥) → is_node n p ≡ 0
  other_node p apart = ap (λ b. cond b 1 0) (ne_eqb p.node n apart)

  module _ {E : Type 0} where
    none_below : (m : ℕ) (os : List (Occurrence E)) → n < m → sum_by (is_node n) (places m os) ≡ 0
    none_below m [] l = refl
    none_below m (o ∷ os) l =
        let first = other_node (record { at = o.at; order = o.order; node = m }) (λ same. omega (arith, l, same)) in
        let rest = none_below (m + 1) os (omega (arith, l)) in
        let both = sum_by-cons (is_node n) (record { at = o.at; order = o.order; node = m }) (places (m + 1) os) in
        omega (arith, first, rest, both)

    once : (m : ℕ) (os : List (Occurrence E)) → sum_by (is_node n) (places m os) ≤ 1
    once m [] = omega arith
    once m (o ∷ os) = by (m == n) refl (once (m + 1) os)
      where
        here : NodePlace
        here = record { at = o.at; order = o.order; node = m }

        by : (t : Bool) → (m == n) ≡ t → sum_by (is_node n) (places (m + 1) os) ≤ 1
            → sum_by (is_node n) (places m (o ∷ os)) ≤ 1
        by true e rest =
            let same = (Decides-eqb m n).0 e in
            let first = its_node here same in
            let later = none_below (m + 1) os (omega (arith, same)) in
            let both = sum_by-cons (is_node n) here (places (m + 1) os) in
            omega (arith, first, later, both)
        by false e rest =
            let first : is_node n here ≡ 0 = ap (λ b. cond b 1 0) e in
            let both = sum_by-cons (is_node n) here (places (m + 1) os) in
            omega (arith, first, rest, both)

  there : (ps : List NodePlace) (q : NodePlace) → Contains ps q → q.node ≡ n → 1 ≤ sum_by (is_node n) ps
  there ps q h same =
      let least = get_or-le-sum_by (is_node n) ps h.0 q h.1 in
      let its = ap (is_node n) h.2 ∙ its_node q same in
      omega (arith, least, its)

-- the order by recursion on the list
sorted : (ps : List NodePlace) → ((n : ℕ) → sum_by (is_node n) ps ≤ 1) → order.AreInOrder ps → AreInOrder Precedes ps
sorted [] one h = tt
sorted (p ∷ ps) one h = (
  λ q among.
      strictly p q (subst (IsNotAfter p) among.2 (h 0 (suc among.0) q (omega arith) (omega (arith, among.1)))) λ same.
      let most = one p.node in
      let least = there p.node ps q among same in
      let first = its_node p.node p refl in
      let both = sum_by-cons (is_node p.node) p ps in
      omega (arith, most, least, first, both),
  sorted ps
      (λ n. let most = one n in let both = sum_by-cons (is_node n) p ps in omega (arith, most, both))
      λ i j d l m. h (suc i) (suc j) d (omega (arith, l)) (omega (arith, m)),
)

pub one_order : {E : Type 0} (os : List (Occurrence E)) (a b : List NodePlace)
    → IsPermutation (places 0 os) a
    → order.AreInOrder a
    → IsPermutation (places 0 os) b
    → order.AreInOrder b
    → a ≡ b
one_order os a b same ordered same_too ordered_too =
    one_list Precedes not_both a b (sorted a (ones a same) ordered) (sorted b (ones b same_too) ordered_too)
    (λ z. Contains-permutation a b z
    (IsPermutation-trans a (places 0 os) b (IsPermutation-sym (places 0 os) a same) same_too))
    (λ z. Contains-permutation b a z
    (IsPermutation-trans b (places 0 os) a (IsPermutation-sym (places 0 os) b same_too) same))
  where
    ones : (ps : List NodePlace) → IsPermutation (places 0 os) ps → (n : ℕ) → sum_by (is_node n) ps ≤ 1
    ones ps is n =
        let so = sum_by-IsPermutation (is_node n) (places 0 os) ps is in
        let most = once n 0 os in
        omega (arith, so, most)
