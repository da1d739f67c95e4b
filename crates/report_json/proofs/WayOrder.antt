-- The lines of offsets in order are in order.
use Rattle.std.proofs.Common.{◌≡◌, ℕ, zero, suc, ◌+◌, ◌<◌, ◌≤◌, ◌==◌, Bool, true, false, inl, inr, if◌then◌else◌, cond, List, [], ◌∷◌, ◌++◌, length, take, refl, sym, subst, arith}
use Rattle.std.specs.Prelude.{count_by, slice_index}
use Rattle.std.specs.List.Sorted.{IsStrictlyIncreasing}
use Rattle.std.proofs.lemmas.List.Sums.{sum_by-append}
use Rattle.std.proofs.lemmas.Bool.{cases_lt, eqb-false, eqb-true}
use Rattle.lexer.specs.Place.{is_newline, line_of}
use Rattle.report_json.specs.WayLines.{lines_from, LinesAreInOrder}

one_first : (p : ℕ → Bool) (x : ℕ) (xs : List ℕ) → count_by p (x ∷ xs) ≡ count_by p (x ∷ []) + count_by p xs
one_first p x xs = sum_by-append (λ y. cond (p y) 1 0) (x ∷ []) xs

counts : (p : ℕ → Bool) (xs : List ℕ) (a b : ℕ) → a ≤ b → count_by p (take a xs) ≤ count_by p (take b xs)
counts p xs zero b l = omega arith
counts p xs (suc a) zero l = absurd (omega (arith, l))
counts p [] (suc a) (suc b) l = omega arith
counts p (x ∷ xs) (suc a) (suc b) l =
    let h = counts p xs a b (omega (arith, l)) in
    let first : ℕ = count_by p (x ∷ []) in
    let low : count_by p (take (suc a) (x ∷ xs)) ≡ first + count_by p (take a xs) = one_first p x (take a xs) in
    let high : count_by p (take (suc b) (x ∷ xs)) ≡ first + count_by p (take b xs) = one_first p x (take b xs) in
    omega (arith, h, low, high)

line_grows : (text : List ℕ) (a b : ℕ) → a < b → line_of text a ≤ line_of text b
line_grows text a b l = let h = counts is_newline text a b (omega (arith, l)) in omega (arith, h)

-- each of the numbers is above the one before it, the first one above this
abbrev Rises : ℕ → List ℕ → Type 0
Rises last [] = Unit {0}
Rises last (x ∷ xs) = (last < x) × Rises x xs

one_on : (k : ℕ) → suc k + 1 ≡ suc (k + 1)
one_on k = omega arith

rises : (x : ℕ) (xs : List ℕ) → IsStrictlyIncreasing (x ∷ xs) → Rises x xs
rises x [] h = tt
rises x (y ∷ ys) h = (
  h 0 (omega arith),
  rises y ys
      (λ k l. subst (λ n. slice_index (y ∷ ys) k < slice_index (x ∷ y ∷ ys) n) (one_on k) (h (suc k) (omega (arith, l)))),
)

increases : (x : ℕ) (xs : List ℕ) → Rises x xs → (k : ℕ) → k + 1 < length (x ∷ xs)
    → slice_index (x ∷ xs) k < slice_index (x ∷ xs) (k + 1)
increases x [] r k l = absurd (omega (arith, l))
increases x (y ∷ ys) r zero l = r.0
increases x (y ∷ ys) r (suc k) l =
    subst (λ n. slice_index (y ∷ ys) k < slice_index (x ∷ y ∷ ys) n) (sym (one_on k))
    (increases y ys r.1 k (omega (arith, l)))

above : (last line : ℕ) → (line == last) ≡ false → last ≤ line → last < line
above last line e low = elim (cases_lt last line) [
  | inl more ↦ more
  | inr less ↦ absurd (eqb-false line last e (omega (arith, low, less)))
]

with_line : (last line : ℕ) (rest : List ℕ) (b : Bool) → (line == last) ≡ b → last ≤ line → Rises line rest
    → Rises last ((if b then [] else line ∷ []) ++ rest)
with_line last line rest true e low r = subst (λ n. Rises n rest) (eqb-true line last e) r
with_line last line rest false e low r = (above last line e low, r)

lines_rise : (text : List ℕ) (last at : ℕ) (ats : List ℕ) → last ≤ line_of text at → Rises at ats
    → Rises last (lines_from text last (at ∷ ats))
lines_rise text last at [] low r = with_line last (line_of text at) [] (line_of text at == last) refl low tt
lines_rise text last at (b ∷ bs) low r =
    with_line last (line_of text at) (lines_from text (line_of text at) (b ∷ bs)) (line_of text at == last) refl low
    (lines_rise text (line_of text at) b bs (line_grows text at b r.0) r.1)

begin : (xs : List ℕ) → Rises 0 xs → IsStrictlyIncreasing xs
begin [] r = λ k l. absurd (omega (arith, l))
begin (x ∷ xs) r = increases x xs r.1

pub in_order : LinesAreInOrder
in_order text [] h = λ k l. absurd (omega (arith, l))
in_order text (at ∷ ats) h =
    begin (lines_from text 0 (at ∷ ats)) (lines_rise text 0 at ats (omega arith) (rises at ats h))
