-- What stands in a text behind a front.
use Rattle.std.proofs.Common.{◌≡◌, ◌⊎◌, inl, inr, ℕ, ◌+◌, true, false, List, ◌++◌, Bor, Option, Some, None, MatchOption, drop, length, nat_eq, option_map, if◌then◌else◌, refl, ap, ◌∙◌, sym}
use Rattle.std.proofs.lemmas.Bool.{cases_Bool}
use Rattle.std.proofs.lemmas.Bool.Decides.{Decides-eqb}
use Rattle.std.proofs.lemmas.Slice.Eq.{starts_is}
use Rattle.std.specs.List.{starts_with}
use Rattle.std.specs.Str.Pattern.{FindsTextPrefix}
use Rattle.folders.specs.ListedFiles.{behind}

module _ (front name : List ℕ) where
  begins : starts_with nat_eq name front ≡ true → Some (drop (length front) name) ≡ behind front name
  begins is = ap (λ b. if b then Some (drop (length front) name) else None) (sym is)

  begins_not : starts_with nat_eq name front ≡ false → None ≡ behind front name
  begins_not is = ap (λ b. if b then Some (drop (length front) name) else None) (sym is)

  lacks : ((rest : List ℕ) → name ≡ front ++ rest → ⊥)
      → (starts_with nat_eq name front ≡ true) ⊎ (starts_with nat_eq name front ≡ false)
      → None ≡ behind front name
  lacks none (inl is) = absurd (none (drop (length front) name) ((starts_is Decides-eqb name front _ refl).0 is))
  lacks none (inr is) = begins_not is

  pub stripped : (r : Option (Bor (List ℕ)))
      → MatchOption r (FindsTextPrefix front name None)
      (λ x. (n : ℕ) × FindsTextPrefix front name (Some n) × (x.now ≡ drop n name) × (length x.now + n ≡ length name))
      → option_map (λ x. x.now) r ≡ behind front name
  stripped None none = lacks none (cases_Bool (starts_with nat_eq name front))
  stripped (Some x) found =
      let is = (starts_is Decides-eqb name front _ refl).1 (drop found.0 name) found.1.1 in
      ap (λ l. Some l) (found.2 ∙ ap (λ n. drop n name) found.1.0) ∙ begins is
