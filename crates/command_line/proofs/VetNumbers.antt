-- A number that is read is the one that the digits of its text say.
use Rattle.std.proofs.Common.{◌≡◌, inl, inr, ℕ, ◌<◌, ◌^◌, ◌==◌, not, true, List, length, nat_lt, Some, None, Result, Ok, Err, if◌then◌else◌, ap, sym, ◌∙◌, rules}
use Rattle.std.proofs.lemmas.Bool.{cases_Bool, and_parts, and_from}
use Rattle.std.proofs.lemmas.Str.Parse.{IsNumeralModel, numerals_by_value, tells_all_ascii_digits}
use Rattle.std.specs.Result.{OkIff}
use Rattle.std.specs.Str.{all_ascii_digits}
use Rattle.std.specs.Str.Parse.{digits_value, IsNumeral}
use Rattle.command_line.specs.VetWords.{is_number, number_in_digits}

own : IsNumeralModel (λ ds. all_ascii_digits ds ≡ true) (digits_value 10)
own = numerals_by_value _ tells_all_ascii_digits

abbrev IsRead : List ℕ → Type 0
IsRead digits = IsNumeral 10 digits × (digits_value 10 digits < 2 ^ 64)

some_digits : (n : ℕ) → 0 < n → not (n == 0) ≡ true
some_digits n some = search rules

below : (n m : ℕ) → n < m → nat_lt n m ≡ true
below n m less = search rules

passes : (digits : List ℕ) → IsRead digits → is_number digits ≡ true
passes digits read =
    and_from _ _ (some_digits (length digits) read.0.0)
    (and_from _ _ (own.from digits read.0.1) (below (digits_value 10 digits) (2 ^ 64) read.1))

none_at : (n : ℕ) → not (n == 0) ≡ true → 0 < n
none_at n some = search rules

less : (n m : ℕ) → nat_lt n m ≡ true → n < m
less n m passed = search rules

is_read : (digits : List ℕ) → is_number digits ≡ true → IsRead digits
is_read digits passed =
    let first = and_parts _ _ passed in
    let second = and_parts _ _ first.1 in
    ((none_at (length digits) first.0, own.to digits second.0), less (digits_value 10 digits) (2 ^ 64) second.1)

pub number_read : {E : Type 0} (digits : List ℕ) (r : Result ℕ E) (n : ℕ)
    → OkIff r (IsRead digits) (digits_value 10 digits) → r ≡ Ok n → Some n ≡ number_in_digits digits
number_read digits r n read is =
    let so : IsRead digits × (n ≡ digits_value 10 digits) = rw is at read in
    ap (λ m. Some m) so.1 ∙ ap (λ b. if b then Some (digits_value 10 digits) else None) (sym (passes digits so.0))

pub none_read : {E : Type 0} (digits : List ℕ) (r : Result ℕ E) (e : E)
    → OkIff r (IsRead digits) (digits_value 10 digits) → r ≡ Err e → None ≡ number_in_digits digits
none_read digits r e read is =
    let not_so : IsRead digits → ⊥ = rw is at read in
    elim (cases_Bool (is_number digits)) [
      | inl passed ↦ absurd (not_so (is_read digits passed))
      | inr fails ↦ ap (λ b. if b then Some (digits_value 10 digits) else None) (sym fails)
    ]
