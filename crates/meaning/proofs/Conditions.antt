-- What a condition finds out is so.
use Rattle.std.proofs.Common.{◌≡◌, Bool, true, false, inl, inr, [], ◌∷◌, ◌++◌, Option, Some, None, Contains, refl, ap, subst}
use Rattle.std.specs.Prelude.{if◌then◌else◌, not, codes}
use Rattle.std.specs.Str.{bytes_eq}
use Rattle.std.proofs.lemmas.List.Elements.{Contains-append_cases}
use Rattle.tree.specs.declared.operator.BinaryOperator.{BinaryOperator}
use Rattle.tree.specs.declared.span.Span.{Span}
use Rattle.tree.specs.Syntax.{Expression}
use Rattle.meaning.specs.Mentions.{Named, as_bare, NilTest, nil_test, nil_where, error_where, has_both, compares}
use Rattle.meaning.specs.Conditions.{joined, ComesOut, by_itself, and_both, and_first, and_second, or_first, or_second, or_neither, otherwise, Tests, TestsEither, IsNil, ConditionsFindOut}
use Rattle.meaning.proofs.Membership.{contains_cases, contains_nil}

tests_by : (n z : Option Named) (t : NilTest) → Contains (nil_test n z) t → Tests t n z
tests_by None z t h = absurd (contains_nil t h)
tests_by (Some n) None t h = absurd (contains_nil t h)
tests_by (Some n) (Some z) t h = by (bytes_eq z.name (codes "nil")) refl h
  where
    by : (c : Bool) → bytes_eq z.name (codes "nil") ≡ c
        → Contains (if c then record { named = n; nil = z.at } ∷ [] else []) t
        → Tests t (Some n) (Some z)
    by false e k = absurd (contains_nil t k)
    by true e k = elim (contains_cases record { named = n; nil = z.at } t [] k) [
      | inl same ↦ record {
        nil = z;
        is_named = ap (λ (x : NilTest). Some x.named) same;
        is_nil = refl;
        is_nil_there = ap (λ (x : NilTest). x.nil) same;
        has_name = e;
      }
      | inr none ↦ absurd (contains_nil t none)
    ]

tests_either : (l r : Expression) (t : NilTest)
    → Contains (nil_test (as_bare l) (as_bare r) ++ nil_test (as_bare r) (as_bare l)) t
    → TestsEither t l r
tests_either l r t h =
    elim (Contains-append_cases (nil_test (as_bare l) (as_bare r)) (nil_test (as_bare r) (as_bare l)) t h) [
      | inl one ↦ inl (tests_by (as_bare l) (as_bare r) t one)
      | inr other ↦ inr (tests_by (as_bare r) (as_bare l) t other)
    ]

module _ (comes : Expression → Bool) where
  of_leaf : (op : BinaryOperator) (l r : Expression) (span : Span) (b : Bool) → comes (joined op l r span) ≡ b
      → (both test : Bool) → both ≡ false → compares b op ≡ test
      → (t : NilTest)
      → Contains (if both then nil_where b l ++ nil_where b r
      else if test then nil_test (as_bare l) (as_bare r) ++ nil_test (as_bare r) (as_bare l) else []) t
      → IsNil comes t
  of_leaf op l r span b is true test none e t h = let bad : true ≡ false = none in cc
  of_leaf op l r span b is false true none e t h = record {
    op = op;
    left = l;
    right = r;
    span = span;
    outcome = b;
    came_out = is;
    is_equal = e;
    tests = tests_either l r t h;
  }
  of_leaf op l r span b is false false none e t h = absurd (contains_nil t h)

  either_none : (b : Bool) (op : BinaryOperator) → has_both true op ≡ false → has_both false op ≡ false → has_both b op ≡ false
  either_none true op h k = h
  either_none false op h k = k

  found_is_nil : (e : Expression) (b : Bool) → ComesOut comes e b → (t : NilTest) → Contains (nil_where b e) t → IsNil comes t
  found_is_nil e b (by_itself op l r span _ h k is) t among =
      of_leaf op l r span b is (has_both b op) (compares b op) (either_none b op h k) refl t among
  found_is_nil e b (and_both l r span x y) t among =
      elim (Contains-append_cases (nil_where true l) (nil_where true r) t among) [
        | inl first ↦ found_is_nil l true x t first
        | inr second ↦ found_is_nil r true y t second
      ]
  found_is_nil e b (and_first l r span x) t among = absurd (contains_nil t among)
  found_is_nil e b (and_second l r span x y) t among = absurd (contains_nil t among)
  found_is_nil e b (or_first l r span x) t among = absurd (contains_nil t among)
  found_is_nil e b (or_second l r span x y) t among = absurd (contains_nil t among)
  found_is_nil e b (or_neither l r span x y) t among =
      elim (Contains-append_cases (nil_where false l) (nil_where false r) t among) [
        | inl first ↦ found_is_nil l false x t first
        | inr second ↦ found_is_nil r false y t second
      ]
  found_is_nil e b (otherwise _ _ none) t among = absurd (contains_nil t (subst (λ ts. Contains ts t) none among))

found_error : (op : BinaryOperator) (l r : Expression) (span : Span) (b : Bool) (t : NilTest)
    → Contains (error_where b (joined op l r span)) t
    → (compares (not b) op ≡ true) × TestsEither t l r
found_error op l r span b t h = by (compares (not b) op) refl h
  where
    by : (c : Bool) → compares (not b) op ≡ c
        → Contains (if c then nil_test (as_bare l) (as_bare r) ++ nil_test (as_bare r) (as_bare l) else []) t
        → (compares (not b) op ≡ true) × TestsEither t l r
    by true e k = (e, tests_either l r t k)
    by false e k = absurd (contains_nil t k)

pub conditions_find_out : ConditionsFindOut
conditions_find_out = record { nil = found_is_nil; error = found_error }
