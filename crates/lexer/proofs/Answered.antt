-- An answer whose tokens or fault are the text's own is determined by the text, out of memory aside.
use Rattle.std.proofs.Common.{◌≡◌, ℕ, List, Result, Ok, Err, refl}
use Rattle.std.specs.Prelude.{◌≢◌, IfOk, IfErr, IsErr}
use Rattle.lexer.specs.declared.token.Token.{Token}
use Rattle.lexer.specs.declared.fault.LexFault.{LexFault}
use Rattle.lexer.specs.declared.fault.LexFault.TheVariants.{NotUtf8, Nul, UnclosedString, UnclosedComment, UnclosedRune, UnknownCharacter, TooLong, OutOfMemory}
use Rattle.lexer.specs.Tokens.{IsTokens}
use Rattle.lexer.specs.Faults.{IsFault}
use Rattle.lexer.proofs.Whole.{one_token_list}
use Rattle.lexer.proofs.Outcomes.{one_outcome, one_fault}

out_of_memory : (f : LexFault) → (f ≢ OutOfMemory → ⊥) → f ≡ OutOfMemory
out_of_memory OutOfMemory h = refl
out_of_memory TooLong h = absurd (h (λ e. let other : ⊥ = cc in other))
out_of_memory (NotUtf8 at) h = absurd (h (λ e. let other : ⊥ = cc in other))
out_of_memory (Nul at) h = absurd (h (λ e. let other : ⊥ = cc in other))
out_of_memory (UnclosedString at) h = absurd (h (λ e. let other : ⊥ = cc in other))
out_of_memory (UnclosedComment at) h = absurd (h (λ e. let other : ⊥ = cc in other))
out_of_memory (UnclosedRune at) h = absurd (h (λ e. let other : ⊥ = cc in other))
out_of_memory (UnknownCharacter at) h = absurd (h (λ e. let other : ⊥ = cc in other))

module _ {V : Type 0} (items : V → List Token) (text : List ℕ) where
  pub given_tokens : (r : Result V LexFault) → IfOk r (λ v. IsTokens text (items v)) → IfErr r (λ f. f ≢ OutOfMemory → IsFault text f) → (ts : List Token) → IsTokens text ts → IfOk r (λ v. items v ≡ ts) × IfErr r (λ f. f ≡ OutOfMemory)
  given_tokens (Ok v) found refused ts t = (one_token_list text (items v) ts found t, tt)
  given_tokens (Err f) found refused ts t = (tt, out_of_memory f (λ other. one_outcome text ts f t (refused other)))

  pub given_fault : (r : Result V LexFault) → IfOk r (λ v. IsTokens text (items v)) → IfErr r (λ f. f ≢ OutOfMemory → IsFault text f) → (g : LexFault) → IsFault text g → IsErr r × IfErr r (λ f. f ≢ OutOfMemory → f ≡ g)
  given_fault (Ok v) found refused g h = absurd (one_outcome text (items v) g found h)
  given_fault (Err f) found refused g h = (refl, λ other. one_fault text f g (refused other) h)
