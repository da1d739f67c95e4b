-- What stands in a name before an end.
use Rattle.std.proofs.Common.{◌≡◌, ◌⊎◌, inl, inr, ℕ, ◌+◌, ◌-◌, Bool, true, false, List, ◌++◌, Bor, Option, Some, None, MatchOption, length, nat_eq, option_map, take, if◌then◌else◌, refl, ap, ◌∙◌, sym}
use Rattle.std.proofs.lemmas.Bool.{cases_Bool}
use Rattle.std.proofs.lemmas.Bool.Decides.{Decides-eqb}
use Rattle.std.proofs.lemmas.Slice.Eq.{ends_is}
use Rattle.std.specs.List.{ends_with}
use Rattle.std.specs.Str.Pattern.{FindsTextSuffix}

module _ (end name : List ℕ) where
  abbrev pub before_end : Option (List ℕ)
  before_end = if ends_with nat_eq name end then Some (take (length name - length end) name) else None

  of_test : (test : Bool) → ends_with nat_eq name end ≡ test
      → before_end ≡ (if test then Some (take (length name - length end) name) else None)
  of_test test is = ap (λ b. if b then Some (take (length name - length end) name) else None) is

  lacks : ((front : List ℕ) → name ≡ front ++ end → ⊥)
      → (ends_with nat_eq name end ≡ true) ⊎ (ends_with nat_eq name end ≡ false)
      → None ≡ before_end
  lacks none (inl is) = absurd (none _ ((ends_is Decides-eqb name end _ refl).0 is))
  lacks none (inr is) = sym (of_test false is)

  pub before_is : (r : Option (Bor (List ℕ)))
      → MatchOption r (FindsTextSuffix end name None)
      (λ x. (n : ℕ) × FindsTextSuffix end name (Some n) × (x.now ≡ take (length name - n) name) × (length x.now + n ≡ length name))
      → option_map (λ x. x.now) r ≡ before_end
  before_is None none = lacks none (cases_Bool (ends_with nat_eq name end))
  before_is (Some x) found =
      let is = (ends_is Decides-eqb name end _ refl).1 _ found.1.1 in
      ap (λ l. Some l) (found.2 ∙ ap (λ n. take (length name - n) name) found.1.0) ∙ sym (of_test true is)
