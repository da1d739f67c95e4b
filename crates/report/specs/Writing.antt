-- What a call that puts bytes into a sink has done, by its result.
use Rattle.std.specs.Prelude.{◌≡◌, ℕ, ◌+◌, ◌-◌, ◌^◌, min, zero, suc, List, [], ◌∷◌, ◌++◌, Result, Ok, Err}

-- one refusal more, as far as 64 bits can count
abbrev pub one_more : ℕ → ℕ
one_more count = min (count + 1) (2 ^ 64 - 1)

-- The refusals after one put of these bytes: one more where it failed, or took none though there were some.
abbrev pub refusals_after_put : {E : Type 0} → ℕ → List ℕ → Result ℕ E → ℕ
refusals_after_put before bytes (Err why) = one_more before
refusals_after_put before (b ∷ bs) (Ok zero) = one_more before
refusals_after_put before (b ∷ bs) (Ok (suc count)) = before
refusals_after_put before [] (Ok count) = before

-- The refusals after a call that stops at the first one.
abbrev pub refusals_after : {T E : Type 0} → ℕ → Result T E → ℕ
refusals_after before (Ok done) = before
refusals_after before (Err why) = one_more before

-- A sink that had taken `old` and has taken `new` took a beginning of the text, and not all of it.
pub record TakesFront (text old new : List ℕ) : Type 0 where
  pub front : List ℕ
  pub next : ℕ
  pub rest : List ℕ
  pub is_front : text ≡ front ++ next ∷ rest
  pub taken : new ≡ old ++ front

-- The text was taken as a whole where the call is done, and else only a beginning of it.
abbrev pub IsWritten : {T E : Type 0} → List ℕ → (old new : List ℕ) → Result T E → Type 0
IsWritten text old new (Ok done) = new ≡ old ++ text
IsWritten text old new (Err why) = TakesFront text old new
