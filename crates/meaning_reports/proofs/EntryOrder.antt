-- Two lists of the same elements in one order are one list. So are two lists of the same entries in the order of a
-- report, and two lists of the same texts in theirs.
use Rattle.std.proofs.Common.{◌≡◌, ℕ, suc, inl, inr, List, [], ◌∷◌, Contains, refl, sym, ap, ◌∙◌, subst, arith}
use Rattle.std.specs.Prelude.{◌↔◌}
use Rattle.std.specs.List.{AllPairs}
use Rattle.meaning.proofs.Membership.{contains_nil, contains_here, contains_there, contains_cases}
use Rattle.report.specs.Codes.{code_rank}
use Rattle.report.specs.Entries.{Entry, TextPrecedes, Precedes, earlier_file, earlier_offset, earlier_code, earlier_name}

-- No two entries come before each other

not_both_texts : (xs ys : List ℕ) → TextPrecedes xs ys → TextPrecedes ys xs → ⊥
not_both_texts [] [] h k = h
not_both_texts [] (y ∷ ys) h k = k
not_both_texts (x ∷ xs) [] h k = h
not_both_texts (x ∷ xs) (y ∷ ys) (inl h) (inl k) = omega (arith, h, k)
not_both_texts (x ∷ xs) (y ∷ ys) (inl h) (inr k) = let same = k.0 in omega (arith, h, same)
not_both_texts (x ∷ xs) (y ∷ ys) (inr h) (inl k) = let same = h.0 in omega (arith, k, same)
not_both_texts (x ∷ xs) (y ∷ ys) (inr h) (inr k) = not_both_texts xs ys h.1 k.1

not_both : (a b : Entry) → Precedes a b → Precedes b a → ⊥
not_both a b (earlier_file l) (earlier_file m) = omega (arith, l, m)
not_both a b (earlier_file l) (earlier_offset f m) = omega (arith, l, f)
not_both a b (earlier_file l) (earlier_code f o m) = omega (arith, l, f)
not_both a b (earlier_file l) (earlier_name f o c m) = omega (arith, l, f)
not_both a b (earlier_offset f l) (earlier_file m) = omega (arith, f, m)
not_both a b (earlier_offset f l) (earlier_offset g m) = omega (arith, l, m)
not_both a b (earlier_offset f l) (earlier_code g o m) = omega (arith, l, o)
not_both a b (earlier_offset f l) (earlier_name g o c m) = omega (arith, l, o)
not_both a b (earlier_code f o l) (earlier_file m) = omega (arith, f, m)
not_both a b (earlier_code f o l) (earlier_offset g m) = omega (arith, o, m)
not_both a b (earlier_code f o l) (earlier_code g p m) = omega (arith, l, m)
not_both a b (earlier_code f o l) (earlier_name g p c m) = let same = ap code_rank c in omega (arith, l, same)
not_both a b (earlier_name f o c l) (earlier_file m) = omega (arith, f, m)
not_both a b (earlier_name f o c l) (earlier_offset g m) = omega (arith, o, m)
not_both a b (earlier_name f o c l) (earlier_code g p m) = let same = ap code_rank c in omega (arith, m, same)
not_both a b (earlier_name f o c l) (earlier_name g p d m) = not_both_texts a.name b.name l m

-- Two lists in one order

module _ {X : Type 0} (Before : X → X → Type 0) where
  -- the order by recursion on the list
  abbrev pub AreInOrder : List X → Type 0
  AreInOrder [] = Unit {0}
  AreInOrder (x ∷ xs) = ((y : X) → Contains xs y → Before x y) × AreInOrder xs

-- no two come before each other
module _ {X : Type 0} (Before : X → X → Type 0) (not_both : (a b : X) → Before a b → Before b a → ⊥) where
  same_first : (x y : X) (xs ys : List X) → AreInOrder Before (x ∷ xs) → AreInOrder Before (y ∷ ys)
      → Contains (y ∷ ys) x
      → Contains (x ∷ xs) y
      → x ≡ y
  same_first x y xs ys h k there back = elim (contains_cases y x ys there) [
    | inl same ↦ sym same
    | inr later ↦ elim (contains_cases x y xs back) [
      | inl same ↦ same
      | inr behind ↦ absurd (not_both x y (h.0 y behind) (k.0 x later))
    ]
  ]

  -- a later one of the first list is a later one of the second
  later_too : (x y z : X) (xs ys : List X) → AreInOrder Before (x ∷ xs) → x ≡ y → Contains xs z
      → Contains (y ∷ ys) z
      → Contains ys z
  later_too x y z xs ys h same among there = elim (contains_cases y z ys there) [
    | inl first ↦
        let itself : Before z z = subst (λ (w : X). Before w z) (same ∙ first) (h.0 z among) in
        absurd (not_both z z itself itself)
    | inr later ↦ later
  ]

  pub one_list : (xs ys : List X) → AreInOrder Before xs → AreInOrder Before ys
      → ((z : X) → Contains xs z → Contains ys z)
      → ((z : X) → Contains ys z → Contains xs z)
      → xs ≡ ys
  one_list [] [] h k there back = refl
  one_list [] (y ∷ ys) h k there back = absurd (contains_nil y (back y (contains_here y ys)))
  one_list (x ∷ xs) [] h k there back = absurd (contains_nil x (there x (contains_here x xs)))
  one_list (x ∷ xs) (y ∷ ys) h k there back =
      let same = same_first x y xs ys h k (there x (contains_here x xs)) (back y (contains_here y ys)) in
      let rest = one_list xs ys h.1 k.1
      (λ z among. later_too x y z xs ys h same among (there z (contains_there x z xs among)))
      (λ z among. later_too y x z ys xs k (sym same) among (back z (contains_there y z ys among))) in
      λ i. same i ∷ rest i

-- Entries in the order of a report, and texts

in_order : {X : Type 0} (Before : X → X → Type 0) (xs : List X) → AllPairs Before xs → AreInOrder Before xs
in_order Before [] h = tt
in_order Before (x ∷ xs) h = (
  λ y among. subst (Before x) among.2 (h 0 (suc among.0) y (omega arith) (omega (arith, among.1))),
  in_order Before xs λ i j d l m. h (suc i) (suc j) d (omega (arith, l)) (omega (arith, m)),
)

pub one_order : (xs ys : List Entry) → AllPairs Precedes xs → AllPairs Precedes ys
    → ((z : Entry) → Contains xs z ↔ Contains ys z)
    → xs ≡ ys
one_order xs ys h k same =
    one_list Precedes not_both xs ys (in_order Precedes xs h) (in_order Precedes ys k) (λ z. (same z).0)
    (λ z. (same z).1)

pub one_order_of_texts : (xs ys : List (List ℕ)) → AllPairs TextPrecedes xs → AllPairs TextPrecedes ys
    → ((z : List ℕ) → Contains xs z ↔ Contains ys z)
    → xs ≡ ys
one_order_of_texts xs ys h k same =
    one_list TextPrecedes not_both_texts xs ys (in_order TextPrecedes xs h) (in_order TextPrecedes ys k)
    (λ z. (same z).0) (λ z. (same z).1)
