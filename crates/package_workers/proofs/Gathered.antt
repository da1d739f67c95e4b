-- What workers judged is kept, one result after the other.
use Rattle.std.proofs.Common.{◌≡◌, ℕ, zero, suc, ◌⊎◌, inl, inr, [], ◌∷◌, Option, Some, None, refl, sym, ap, ◌∙◌, subst, replicate}
use Rattle.std.specs.Prelude.{slice_set}
use Rattle.std.proofs.lemmas.Option.{same_Some, none-some}
use Rattle.all_packages.specs.Progress.{Slots, slot_at}
use Rattle.one_package.specs.declared.judged.Judged.{Judged}
use Rattle.package_workers.specs.Slots.{MayBeKept}

-- what is in a place after one was set is what was set, or was there before
set_or_there : (slots : Slots) (i j : ℕ) (v : Option Judged) (m : Judged) → slot_at (slice_set slots i v) j ≡ Some m
    → ((j ≡ i) × (v ≡ Some m)) ⊎ (slot_at slots j ≡ Some m)
set_or_there [] i j v m e = cc
set_or_there (x ∷ xs) zero zero v m e = inl (refl, e)
set_or_there (x ∷ xs) zero (suc j) v m e = inr e
set_or_there (x ∷ xs) (suc i) zero v m e = inr e
set_or_there (x ∷ xs) (suc i) (suc j) v m e =
    elim (set_or_there xs i j v m e) [
      | inl h ↦ inl (ap suc h.0, h.1)
      | inr h ↦ inr h
    ]

all_none : (n i : ℕ) → slot_at (replicate n None) i ≡ None
all_none zero i = refl
all_none (suc n) zero = refl
all_none (suc n) (suc i) = all_none n i

pub none_kept : (told : ℕ → Judged → Type 0) (slots : Slots) (count : ℕ) → slots ≡ replicate count None → MayBeKept told slots
none_kept told slots count same place judged e =
    absurd (none-some judged (sym (ap (λ (s : Slots). slot_at s place) same ∙ all_none count place) ∙ e))

pub one_kept : (told : ℕ → Judged → Type 0) (before after : Slots) (place : ℕ) (judged : Judged)
    → after ≡ slice_set before place (Some judged) → told place judged → MayBeKept told before → MayBeKept told after
one_kept told before after place judged same own kept n m e =
    elim (set_or_there before place n (Some judged) m (ap (λ (s : Slots). slot_at s n) (sym same) ∙ e)) [
      | inl h ↦ subst (λ k. told k m) (sym h.0) (subst (λ j. told place j) (same_Some judged m h.1) own)
      | inr h ↦ kept n m h
    ]
