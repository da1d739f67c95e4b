-- The lines of a way, cut into what is put.
use Rattle.std.proofs.Common.{◌≡◌, ℕ, ◌+◌, ◌<◌, ◌≤◌, ◌==◌, ◌||◌, not, Bool, true, false, if◌then◌else◌, List, [], ◌∷◌, ◌++◌, length, get_or, drop, map, decimal, codes, true≢false, refl, sym, ap, ◌∙◌}
use Rattle.std.specs.Prelude.{nat_eq}
use Rattle.std.proofs.lemmas.List.{append_assoc, append-nil, drop_all, drop_more}
use Rattle.json.specs.Print.{escape_byte}
use Rattle.serde_json.specs.Written.{comma_if, compact_text}
use Rattle.lexer.specs.Place.{line_of}
use Rattle.std.proofs.Math.Dec.{eqb-suc-zero}
use Rattle.std.proofs.lemmas.Bool.{eq-eqb, ne_eqb}
use Rattle.format_parts.specs.Objects.{whole}
use Rattle.format_parts.specs.Pieces.{listed, members_listed}
use Rattle.format_parts.proofs.Values.{items_then_listed, joined, listed_is}
use Rattle.report_json.specs.WayLines.{lines_from, lines_members, new_line}

-- one line behind its comma
line_here : (later : Bool) (line : ℕ) → listed later (whole line ∷ []) ≡ joined (comma_if later ∷ decimal line ∷ []) []
line_here later line = ap (λ t. comma_if later ++ t) (append-nil (decimal line)) ∙ sym (ap (λ t. comma_if later ++ t) (append-nil (decimal line)))

pub line_is : (later : Bool) (last line : ℕ) (comma : List ℕ) → (line ≡ last → ⊥) → comma ≡ comma_if later
    → listed later (map whole (new_line last line)) ≡ joined (comma ∷ decimal line ∷ []) []
line_is later last line comma differ c =
    rw c
    (ap (λ (t : Bool). listed later (map whole (if t then [] else line ∷ []))) (ne_eqb line last differ)
    ∙ line_here later line)

pub same_line : (later : Bool) (last line : ℕ) → line ≡ last → listed later (map whole (new_line last line)) ≡ []
same_line later last line same =
    ap (λ (t : Bool). listed later (map whole (if t then [] else line ∷ []))) (eq-eqb line last same)

-- the line of an offset, and those of the rest
then_lines : (later : Bool) (line : ℕ) (is_last : Bool) (rest : List ℕ)
    → listed later (map whole ((if is_last then [] else line ∷ []) ++ rest))
    ≡ listed later (map whole (if is_last then [] else line ∷ [])) ++ listed (later || not is_last) (map whole rest)
then_lines true line true rest = refl
then_lines false line true rest = refl
then_lines later line false rest = by later
  where
    here : (later : Bool) → List ℕ
    here later = comma_if later ++ (compact_text (whole line) ++ [])

    grouped : (later : Bool) → comma_if later ++ (compact_text (whole line) ++ listed true (map whole rest)) ≡ here later ++ listed true (map whole rest)
    grouped later =
        ap (λ t. comma_if later ++ t)
        (ap (λ t. t ++ listed true (map whole rest)) (sym (append-nil (compact_text (whole line)))))
        ∙ sym (append_assoc (comma_if later) (compact_text (whole line) ++ []) (listed true (map whole rest)))

    by : (later : Bool) → comma_if later ++ (compact_text (whole line) ++ listed true (map whole rest)) ≡ here later ++ listed (later || true) (map whole rest)
    by true = grouped true
    by false = grouped false

module _ (text : List ℕ) (offsets : List ℕ) (i : ℕ) (last : ℕ) where
  pub next_line : (later after : Bool) (d line : ℕ) → i < length offsets
      → line ≡ line_of text (get_or offsets i d) → after ≡ (later || not (nat_eq line last))
      → listed later (map whole (lines_from text last (drop i offsets)))
      ≡ listed later (map whole (new_line last line)) ++ listed after (map whole (lines_from text line (drop (i + 1) offsets)))
  next_line later after d line inside l a =
      ap (λ xs. listed later (map whole (lines_from text last xs))) (drop_more offsets i d inside)
      ∙ ap (λ x. listed later (map whole (new_line last x ++ lines_from text x (drop (i + 1) offsets)))) (sym l)
      ∙ then_lines later line (nat_eq line last) (lines_from text line (drop (i + 1) offsets))
      ∙ ap (λ b. listed later (map whole (new_line last line)) ++ listed b (map whole (lines_from text line (drop (i + 1) offsets)))) (sym a)

  pub no_line : (later : Bool) → length offsets ≤ i → listed later (map whole (lines_from text last (drop i offsets))) ≡ []
  no_line later over = ap (λ xs. listed later (map whole (lines_from text last xs))) (drop_all i offsets over)

-- all of them
lines_here : (text : List ℕ) (at : ℕ) (ats : List ℕ) → members_listed true (lines_members text (at ∷ ats)) ≡ codes ",\"lines\":[" ++ (listed false (map whole (lines_from text 0 (at ∷ ats))) ++ codes "]")
unfolding escape_byte
lines_here text at ats =
    listed_is true (lines_members text (at ∷ ats))
    ∙ ap (λ t. codes ",\"lines\":[" ++ t) (items_then_listed false (map whole (lines_from text 0 (at ∷ ats))) [])

pub lines_are : (text offsets : List ℕ) → false ≡ (length offsets == 0) → members_listed true (lines_members text offsets) ≡ codes ",\"lines\":[" ++ (listed false (map whole (lines_from text 0 offsets)) ++ codes "]")
lines_are text [] some = absurd (true≢false (sym some))
lines_are text (at ∷ ats) some = lines_here text at ats

pub no_lines : (text offsets : List ℕ) → true ≡ (length offsets == 0) → members_listed true (lines_members text offsets) ≡ []
no_lines text [] none = refl
no_lines text (at ∷ ats) none = absurd (true≢false (none ∙ eqb-suc-zero (length ats)))
