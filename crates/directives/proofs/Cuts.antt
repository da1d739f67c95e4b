-- Where the first byte of a text stands that passes a test.
use Rattle.std.proofs.Common.{◌≡◌, ℕ, Bool, true, false, List, length, refl, arith, le_refl}
use Rattle.std.proofs.lemmas.List.Sums.{position_or_len_is}
use Rattle.std.specs.List.{position_or_len}
use Rattle.memchr.specs.Find.{NoneBefore, Nowhere, Passes}

pub other : (test : Bool) → (test ≡ true → ⊥) → test ≡ false
other true not_so = absurd (not_so refl)
other false not_so = refl

module _ (test : ℕ → Bool) (text : List ℕ) where
  pub first_there : (k : ℕ) → NoneBefore (Passes test text) 0 (length text) k × Passes test text k
      → position_or_len test text ≡ k
  first_there k found =
      let inside = found.0.high in
      position_or_len_is test text k 0 (omega arith) (λ j below. other _ (found.0.before j (omega arith) below)) (λ _. found.1)

  pub first_nowhere : Nowhere (Passes test text) 0 (length text) → position_or_len test text ≡ length text
  first_nowhere none =
      position_or_len_is test text (length text) 0 (le_refl _) (λ j below. other _ (none j (omega arith) below))
      (λ below. absurd (omega (arith, below)))
