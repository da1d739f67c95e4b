-- Lists whose elements stand for one thing each, also where they are kept in the order of their keys.
use Rattle.std.proofs.Common.{◌≡◌, List, [], ◌∷◌, refl, subst}
use Rattle.std.specs.Cmp.{IsTotalOrder}
use Rattle.std.specs.declared.cmp.Ordering.{Ordering}
use Rattle.std.specs.List.{AllZip}
use Rattle.serde_json.specs.Data.{Data}
use Rattle.table_json.specs.Tables.{IsArranged}
use Rattle.table_json.specs.TableValues.{AreArrangedOf}
use Rattle.table_json.proofs.Arranged.{one_arrangement}

-- a list whose elements stand for one thing each stands for one list
pub one_list : {A B : Type 0} (R : A → B → Type 0) → ((x : A) (y z : B) → R x y → R x z → y ≡ z) → (xs : List A)
    (ys zs : List B)
    → AllZip R xs ys
    → AllZip R xs zs
    → ys ≡ zs
one_list R one [] [] [] h k = refl
one_list R one [] [] (z ∷ zs) h k = absurd k
one_list R one [] (y ∷ ys) zs h k = absurd h
one_list R one (x ∷ xs) [] zs h k = absurd h
one_list R one (x ∷ xs) (y ∷ ys) [] h k = absurd k
one_list R one (x ∷ xs) (y ∷ ys) (z ∷ zs) h k =
    let first = one x y z h.0 k.0 in
    let rest = one_list R one xs ys zs h.1 k.1 in
    λ i. first i ∷ rest i

module _ {X K : Type 0} {cmp : K → K → Ordering} (total : IsTotalOrder cmp) (key : X → K) (Is : Data → X → Type 0)
    (one : (value : Data) (x y : X) → Is value x → Is value y → x ≡ y) where
  pub none_arranged : (values : List Data) (given : List X) → AllZip Is values given
      → ((other : List X) → ¬ IsArranged cmp key given other)
      → (kept : List X)
      → ¬ AreArrangedOf Is cmp key values kept
  none_arranged values given each none kept h =
      none kept
      (subst (λ g. IsArranged cmp key g kept) (one_list Is one values h.given given h.each each) h.arranged)

  -- a list of values is that of one list at most
  pub one_arranged : (values : List Data) (a b : List X) → AreArrangedOf Is cmp key values a
      → AreArrangedOf Is cmp key values b
      → a ≡ b
  one_arranged values a b h k =
      let same = one_list Is one values h.given k.given h.each k.each in
      one_arrangement total key k.given a b (subst (λ g. IsArranged cmp key g a) same h.arranged) k.arranged
