-- Lists that a loop makes, with the number of each element; the first parts of the loop and the rest are the whole.
use Rattle.std.proofs.Common.{◌≡◌, ℕ, ◌+◌, ◌<◌, List, ◌∷◌, ◌++◌, length, drop, get_or, Option, sym, ap, ◌∙◌, append_assoc}
use Rattle.std.proofs.lemmas.List.{drop_more}
use Rattle.names.proofs.Adding.{or_else-assoc}
use Rattle.meaning.specs.OuterBlocks.{or_else}

drop_one : {X : Type 0} (xs : List X) (i : ℕ) (x : X) → i < length xs → x ≡ get_or xs i x → drop i xs ≡ x ∷ drop (i + 1) xs
drop_one xs i x h is = drop_more xs i x h ∙ ap (λ y. y ∷ drop (i + 1) xs) (sym is)

-- what one adds, and then the rest
module _ {X Y : Type 0} (f : ℕ → List X → List Y) where
  pub counts_on : (g : List Y) (xs : List X) (i : ℕ) (x : X) → i < length xs → x ≡ get_or xs i x
      → f i (x ∷ drop (i + 1) xs) ≡ g ++ f (i + 1) (drop (i + 1) xs)
      → (before after whole : List Y) → after ≡ before ++ g → before ++ f i (drop i xs) ≡ whole
      → after ++ f (i + 1) (drop (i + 1) xs) ≡ whole
  counts_on g xs i x h is more before after whole added so_far =
      ap (λ l. l ++ f (i + 1) (drop (i + 1) xs)) added ∙ append_assoc before g (f (i + 1) (drop (i + 1) xs))
      ∙ sym (ap (λ l. before ++ l) (ap (f i) (drop_one xs i x h is) ∙ more)) ∙ so_far

-- the same where the first value counts
module _ {X V : Type 0} (f : ℕ → List X → Option V) where
  pub finds_on : (g : Option V) (xs : List X) (i : ℕ) (x : X) → i < length xs → x ≡ get_or xs i x
      → f i (x ∷ drop (i + 1) xs) ≡ or_else g (f (i + 1) (drop (i + 1) xs))
      → (before after whole : Option V) → after ≡ or_else before g → or_else before (f i (drop i xs)) ≡ whole
      → or_else after (f (i + 1) (drop (i + 1) xs)) ≡ whole
  finds_on g xs i x h is more before after whole added so_far =
      ap (λ o. or_else o (f (i + 1) (drop (i + 1) xs))) added ∙ or_else-assoc before g (f (i + 1) (drop (i + 1) xs))
      ∙ sym (ap (or_else before) (ap (f i) (drop_one xs i x h is) ∙ more)) ∙ so_far
