-- Counts of keys in a map: as the count of one key changes, and as keys come to those that are known or that stood
-- before.
use Rattle.std.proofs.Common.{◌≡◌, cond, ℕ, ◌+◌, ◌-◌, ◌<◌, ◌≤◌, ◌⊎◌, inl, inr, Bool, true, false, ◌&&◌, if◌then◌else◌, List, [], ◌∷◌, ◌++◌, length, Some, refl, sym, ap, ◌∙◌, arith}
use Rattle.std.specs.Prelude.{count_by, min, nat_lt}
use Rattle.std.specs.Map.{lookup, IsKeyTest, AreApart, KeepsOthers}
use Rattle.std.specs.Option.{unwrap_or}
use Rattle.std.specs.Str.{bytes_eq}
use Rattle.std.proofs.lemmas.Bool.{and_parts, ltb-true, lt-ltb, ltb_from_iff}
use Rattle.std.proofs.lemmas.List.Sums.{sum_by-append, count_by-le-length}
use Rattle.std.proofs.lemmas.Slice.Eq.{bytes_eq-Decides}
use Rattle.accepting.specs.declared.keys.FindingKey.{FindingKey}
use Rattle.accepting.specs.declared.keys.KeyCounts.{KeyCounts}
use Rattle.accepting.specs.ByBaseline.{Key, is_key, has_more}
use Rattle.accepting.specs.KeptKeys.{key_view, left_of, left_after, most, one_more, one_less, AreLeft}

-- the test of a key finds that key, and no other

pub is_sound : (a b : Key) → is_key a b ≡ true → a ≡ b
is_sound a b e =
    let outer = and_parts (bytes_eq a.file b.file) (bytes_eq a.code b.code && bytes_eq a.name b.name) e in
    let inner = and_parts (bytes_eq a.code b.code) (bytes_eq a.name b.name) outer.1 in
    let file = (bytes_eq-Decides a.file b.file).0 outer.0 in
    let code = (bytes_eq-Decides a.code b.code).0 inner.0 in
    let name = (bytes_eq-Decides a.name b.name).0 inner.1 in
    λ i. record { file = file i; code = code i; name = name i }

-- A map from keys to counts, of which one changed

abbrev pub left_in : List (FindingKey × ℕ) → Key → ℕ
left_in es k = unwrap_or (lookup (λ x. is_key k (key_view x)) es) 0

module _ (eq : FindingKey → FindingKey → Bool)
    (eq_is : (x y : FindingKey) → eq x y ≡ is_key (key_view x) (key_view y)) where
  is_key_test : (k : Key) → IsKeyTest eq (λ x. is_key k (key_view x))
  is_key_test k x y e = ap (λ q. is_key q (key_view y)) (is_sound k (key_view x) e) ∙ sym (eq_is x y)

  apart : (k : Key) (q : FindingKey) → is_key k (key_view q) ≡ false → AreApart (eq q) (λ x. is_key k (key_view x))
  apart k q none y e = ap (is_key k) (sym (is_sound (key_view q) (key_view y) (sym (eq_is q y) ∙ e))) ∙ none

  pub updated : (change : ℕ → ℕ) (before after : List (FindingKey × ℕ)) (q : FindingKey) (w : ℕ)
      → w ≡ change (left_in before (key_view q))
      → lookup (eq q) after ≡ Some w
      → KeepsOthers eq (eq q) before after
      → (k : Key)
      → left_in after k ≡ (if is_key k (key_view q) then change (left_in before k) else left_in before k)
  unfolding KeepsOthers
  updated change before after q w value there others k = by (is_key k (key_view q)) refl
    where
      by : (t : Bool) → is_key k (key_view q) ≡ t
          → left_in after k ≡ (if t then change (left_in before k) else left_in before k)
      by true is =
          let same : k ≡ key_view q = is_sound k (key_view q) is in
          let found : lookup (λ x. is_key k (key_view x)) after ≡ Some w =
          (λ i. lookup (λ y. (is_key_test k q y is) i) after) ∙ there in
          ap (λ o. unwrap_or o 0) found ∙ (value ∙ ap (λ x. change (left_in before x)) (sym same))
      by false is = ap (λ o. unwrap_or o 0) (others (λ x. is_key k (key_view x)) (is_key_test k) (apart k q is))

-- Keys that come behind others

plus : (n a b : ℕ) → n ≡ a + (0 + b) → n ≡ a + b
plus n a b is = omega arith

more : (k q : Key) (ks : List Key) → count_by (is_key k) (ks ++ q ∷ []) ≡ count_by (is_key k) ks + cond (is_key k q) 1 0
more k q ks =
    plus (count_by (is_key k) (ks ++ q ∷ [])) (count_by (is_key k) ks) (cond (is_key k q) 1 0)
    (sum_by-append (λ x. cond (is_key k x) 1 0) ks (q ∷ []))

one_known : (m : ℕ) (t : Bool) (l a : ℕ) → l ≡ min a m - 0
    → (if t then min (l + 1) m else l) ≡ min (a + cond t 1 0) m - 0
one_known m true l a is = omega arith
one_known m false l a is = omega arith

one_stood : (m : ℕ) (t : Bool) (l a b : ℕ) → l ≡ min a m - b → (if t then l - 1 else l) ≡ min a m - (b + cond t 1 0)
one_stood m true l a b is = omega arith
one_stood m false l a b is = omega arith

-- none is known, and none stood before
pub none_left : (counts : KeyCounts) → ((k : Key) → left_of counts k ≡ 0) → AreLeft [] [] counts
none_left counts none = record { are_left = λ k. none k }

-- one more is known
pub known_next : (known : List Key) (q : Key) (old new : KeyCounts)
    → ((k : Key) → left_of new k ≡ left_after one_more old q k)
    → AreLeft known [] old
    → AreLeft (known ++ q ∷ []) [] new
known_next known q old new adds so = record {
  are_left = λ k.
      adds k
      ∙ (one_known most (is_key k q) (left_of old k) (count_by (is_key k) known) (so.are_left k)
      ∙ ap (λ n. min n most - 0) (sym (more k q known)));
}

-- one more stood before
pub stood_next : (known before : List Key) (q : Key) (old new : KeyCounts)
    → ((k : Key) → left_of new k ≡ left_after one_less old q k)
    → AreLeft known before old
    → AreLeft known (before ++ q ∷ []) new
stood_next known before q old new takes so = record {
  are_left = λ k.
      takes k
      ∙ (one_stood most (is_key k q) (left_of old k) (count_by (is_key k) known) (count_by (is_key k) before)
      (so.are_left k)
      ∙ ap (λ n. min (count_by (is_key k) known) most - n) (sym (more k q before)));
}

-- Whether one is left

some_up : (m l a b : ℕ) → l ≡ min a m - b → 0 < l → b < a
some_up m l a b is h = omega arith

some_down : (m l a b : ℕ) → l ≡ min a m - b → b < m → b < a → 0 < l
some_down m l a b is fits h = omega arith

all_down : (m l a b : ℕ) → l ≡ min a m - b → a ≤ m → b < a → 0 < l
all_down m l a b is fits h = omega arith

some_left : (m l a b : ℕ) → l ≡ min a m - b → a ≤ m ⊎ b < m → nat_lt 0 l ≡ nat_lt b a
some_left m l a b is (inl fits) =
    ltb_from_iff ((λ e. some_up m l a b is (ltb-true 0 l e)), (λ h. lt-ltb 0 l (all_down m l a b is fits h)))
some_left m l a b is (inr fits) =
    ltb_from_iff ((λ e. some_up m l a b is (ltb-true 0 l e)), (λ h. lt-ltb 0 l (some_down m l a b is fits h)))

-- where no more is known than is counted, or fewer stood before
pub has_left : (known before : List Key) (counts : KeyCounts) (q : Key) → length known ≤ most
    → AreLeft known before counts
    → nat_lt 0 (left_of counts q) ≡ has_more known before q
has_left known before counts q fits so =
    let few = count_by-le-length (is_key q) known in
    some_left most (left_of counts q) (count_by (is_key q) known) (count_by (is_key q) before) (so.are_left q)
    (inl (omega arith))

pub has_left_behind : (known before : List Key) (counts : KeyCounts) (q : Key) → length before < most
    → AreLeft known before counts
    → nat_lt 0 (left_of counts q) ≡ has_more known before q
has_left_behind known before counts q fits so =
    let few = count_by-le-length (is_key q) before in
    some_left most (left_of counts q) (count_by (is_key q) known) (count_by (is_key q) before) (so.are_left q)
    (inr (omega arith))
