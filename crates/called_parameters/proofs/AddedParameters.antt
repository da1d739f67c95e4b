-- Parameters that are added to those that functions are known to call.
use Rattle.std.proofs.Common.{◌≡◌, ℕ, Bool, true, false, ◌||◌, List, refl, sym, ◌∙◌}
use Rattle.std.specs.Prelude.{◌==◌}
use Rattle.std.specs.List.{list_any}
use Rattle.std.specs.Map.{IsKeyTest, AreApart}
use Rattle.std.specs.Set.{KeepsOthers}
use Rattle.std.specs.Str.{bytes_eq}
use Rattle.std.proofs.lemmas.Bool.{and_parts, and_from, true≢false}
use Rattle.std.proofs.lemmas.Bool.Decides.{Decides-eqb}
use Rattle.std.proofs.lemmas.Slice.Eq.{bytes_eq-Decides}
use Rattle.called_parameters.specs.declared.called.FunctionParameter.{FunctionParameter}
use Rattle.called_parameters.specs.Called.{is_parameter}

-- the test of the name and the position of a parameter that passes it
same_test : (name : List ℕ) (k : ℕ) (x y : FunctionParameter) → is_parameter name k x ≡ true
    → is_parameter name k y ≡ is_parameter x.name.now x.position y
same_test name k x y e =
    let both = and_parts (bytes_eq name x.name.now) (k == x.position) e in
    let same_name = (bytes_eq-Decides name x.name.now).0 both.0 in
    let same_position = (Decides-eqb k x.position).0 both.1 in
    λ i. is_parameter (same_name i) (same_position i) y

-- and the other way round
passes_too : (name : List ℕ) (k : ℕ) (x y : FunctionParameter) → is_parameter name k y ≡ true
    → is_parameter x.name.now x.position y ≡ true
    → is_parameter name k x ≡ true
passes_too name k x y e h =
    let here = and_parts (bytes_eq name y.name.now) (k == y.position) e in
    let there = and_parts (bytes_eq x.name.now y.name.now) (x.position == y.position) h in
    and_from (bytes_eq name x.name.now) (k == x.position)
    ((bytes_eq-Decides name x.name.now).1
    ((bytes_eq-Decides name y.name.now).0 here.0 ∙ sym ((bytes_eq-Decides x.name.now y.name.now).0 there.0)))
    ((Decides-eqb k x.position).1 ((Decides-eqb k y.position).0 here.1 ∙ sym ((Decides-eqb x.position y.position).0 there.1)))

or_true : (t : Bool) → true ≡ (t || true)
or_true true = refl
or_true false = refl

or_false : (t : Bool) → t ≡ (t || false)
or_false true = refl
or_false false = refl

module _ (eq : FunctionParameter → FunctionParameter → Bool)
    (eq_is : (x y : FunctionParameter) → eq x y ≡ is_parameter x.name.now x.position y) where
  is_key_test : (name : List ℕ) (k : ℕ) → IsKeyTest eq (is_parameter name k)
  is_key_test name k x y e = same_test name k x y e ∙ sym (eq_is x y)

  apart : (name : List ℕ) (k : ℕ) (p : FunctionParameter) → is_parameter name k p ≡ false → AreApart (eq p) (is_parameter name k)
  apart name k p none q e = by (is_parameter name k q) refl
    where
      by : (t : Bool) → is_parameter name k q ≡ t → t ≡ false
      by false is = refl
      by true is = absurd (true≢false (sym (passes_too name k p q is (sym (eq_is p q) ∙ e)) ∙ none))

  pub added : (before after : List FunctionParameter) (p : FunctionParameter) → list_any (eq p) after ≡ true
      → KeepsOthers eq (eq p) before after
      → (name : List ℕ) (k : ℕ)
      → list_any (is_parameter name k) after ≡ (list_any (is_parameter name k) before || is_parameter name k p)
  unfolding KeepsOthers
  added before after p there others name k = by (is_parameter name k p) refl
    where
      by : (t : Bool) → is_parameter name k p ≡ t
          → list_any (is_parameter name k) after ≡ (list_any (is_parameter name k) before || t)
      by true is =
          (λ i. list_any (λ y. (same_test name k p y is ∙ sym (eq_is p y)) i) after)
          ∙ (there ∙ or_true (list_any (is_parameter name k) before))
      by false is =
          others (is_parameter name k) (is_key_test name k) (apart name k p is)
          ∙ or_false (list_any (is_parameter name k) before)
