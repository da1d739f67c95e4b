-- The lines of a text, one after the other, and those of them that are shown.
use Rattle.std.proofs.Common.{◌≡◌, ℕ, zero, suc, ◌+◌, ◌<◌, ◌==◌, Bool, true, false, if◌then◌else◌, List, [], ◌∷◌, ◌++◌, length, take, drop, slice_index, refl, ap, ◌∙◌, arith}
use Rattle.std.proofs.lemmas.List.{append-nil}
use Rattle.lexer.specs.Bytes.{line_feed}
use Rattle.memchr.specs.Find.{is_byte, NoneBefore, Nowhere, Passes}
use Rattle.report_formats.specs.UnitText.{before_first_line, lines_of, shown_from, shown_if}

-- at this place stands no newline
abbrev pub NoNewline : List ℕ → ℕ → Type 0
NoNewline bs j = (slice_index bs j == line_feed) ≡ true → ⊥

other : (test : Bool) → (test ≡ true → ⊥) → test ≡ false
other true not_so = absurd (not_so refl)
other false not_so = refl

-- up to the first newline there is one line
pub first_line : (bs : List ℕ) (k : ℕ) → k < length bs → (slice_index bs k == line_feed) ≡ true
    → ((j : ℕ) → j < k → NoNewline bs j) → lines_of bs ≡ take k bs ∷ lines_of (drop 1 (drop k bs))
first_line [] k inside ends none = absurd (omega (arith, inside))
first_line (b ∷ bs) zero inside ends none = ap (λ t. if t then [] ∷ lines_of bs else before_first_line b (lines_of bs)) ends
first_line (b ∷ bs) (suc k) inside ends none =
    let rest = first_line bs k (omega (arith, inside)) ends (λ j below. none (suc j) (omega (arith, below))) in
    ap (λ t. if t then [] ∷ lines_of bs else before_first_line b (lines_of bs)) (other _ (none 0 (omega arith)))
    ∙ ap (before_first_line b) rest

-- and without a newline no other
pub only_line : (bs : List ℕ) → ((j : ℕ) → j < length bs → NoNewline bs j) → lines_of bs ≡ bs ∷ []
only_line [] none = refl
only_line (b ∷ bs) none =
    ap (λ t. if t then [] ∷ lines_of bs else before_first_line b (lines_of bs)) (other _ (none 0 (omega arith)))
    ∙ ap (before_first_line b) (only_line bs (λ j below. none (suc j) (omega (arith, below))))

-- the next line, or the last one, is shown where that is told
module _ (near : ℕ → Bool) (number : ℕ) (shown : Bool) (told : shown ≡ near number) (text : List ℕ) where
  pub next_shown : (k : ℕ) (line rest : List ℕ)
      → NoneBefore (Passes (is_byte line_feed) text) 0 (length text) k × Passes (is_byte line_feed) text k
      → line ≡ take k text → rest ≡ drop 1 (drop k text)
      → shown_from near number (lines_of text)
      ≡ shown_if shown number line ++ shown_from near (number + 1) (lines_of rest)
  next_shown k line rest found is_line is_rest =
      let cut = first_line text k found.0.high found.1 (λ j below. found.0.before j (omega arith) below) in
      rw (told, is_line, is_rest) (ap (shown_from near number) cut)

  pub last_shown : Nowhere (Passes (is_byte line_feed) text) 0 (length text)
      → shown_from near number (lines_of text) ≡ shown_if shown number text
  last_shown none =
      let only = only_line text (λ j below. none j (omega arith) below) in
      rw told (ap (shown_from near number) only ∙ append-nil (shown_if (near number) number text))
