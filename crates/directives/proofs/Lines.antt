-- The lines of a text, one after the other, and a text without directives.
use Rattle.std.proofs.Common.{◌≡◌, ℕ, ◌+◌, ◌<◌, Bool, List, [], ◌∷◌, ◌++◌, Option, Some, None, length, take, drop, option_map, refl, sym, ap, ◌∙◌, subst, arith}
use Rattle.std.proofs.lemmas.List.{append_assoc, get_or_default}
use Rattle.std.proofs.lemmas.List.Splits.{join_with_byte-slice_split, slice_split_first, slice_split_none}
use Rattle.std.specs.List.{cons_option, join_with_byte, position_or_len}
use Rattle.lexer.specs.Place.{is_newline}
use Rattle.memchr.specs.Find.{NoneBefore, Nowhere, OccursAt, Passes}
use Rattle.directives.specs.Directives.{DirectiveView, directive_at, directive_on, directives_from, directives_of, lines_of}
use Rattle.directives.specs.Marks.{mark}
use Rattle.directives.proofs.Cuts.{first_there, other}
use Rattle.directives.proofs.Places.{lacks_all, stands_first, stands_later}

-- up to the first newline there is one line, and without a newline no other
module _ (text : List ℕ) where
  pub first_line : (k : ℕ) → NoneBefore (Passes is_newline text) 0 (length text) k × Passes is_newline text k
      → lines_of text ≡ take k text ∷ lines_of (drop (k + 1) text)
  first_line k found =
      let inside = found.0.high in
      let is = first_there is_newline text k found in
      let within : position_or_len is_newline text < length text = omega (arith, is, inside) in
      slice_split_first is_newline text 0 within ∙ ap (λ n. take n text ∷ lines_of (drop (n + 1) text)) is

  pub only_line : Nowhere (Passes is_newline text) 0 (length text) → lines_of text ≡ text ∷ []
  only_line none =
      slice_split_none is_newline text
      (λ j d inside. ap is_newline (get_or_default text j d 0 inside) ∙ other _ (none j (omega arith) inside))

one_and : (one : Option DirectiveView) (rest : List DirectiveView) → cons_option one [] ++ rest ≡ cons_option one rest
one_and None rest = refl
one_and (Some d) rest = refl

-- what was found of the lines so far, with the directive of one line more
module _ (found more : List DirectiveView) (one : Option DirectiveView) (number start : ℕ) (line : List ℕ) where
  pub line_added : more ≡ found ++ cons_option one [] → one ≡ directive_on number start line → (lines : List (List ℕ)) (next : ℕ)
      → next ≡ start + length line + 1
      → more ++ directives_from (number + 1) next lines ≡ found ++ directives_from number start (line ∷ lines)
  line_added added is lines next on =
      let later = directives_from (number + 1) next lines in
      ap (λ ds. ds ++ later) added
      ∙ (append_assoc found (cons_option one []) later
      ∙ ap (λ ds. found ++ ds) (one_and one later ∙ (ap (λ o. cons_option o later) is
      ∙ ap (λ n. cons_option (directive_on number start line) (directives_from (number + 1) n lines)) on)))

  pub last_added : more ≡ found ++ cons_option one [] → one ≡ directive_on number start line
      → more ≡ found ++ directives_from number start (line ∷ [])
  last_added added is = added ∙ ap (λ o. found ++ cons_option o []) is

-- the same of a text whose lines are left
module _ (text line : List ℕ) (found more : List DirectiveView) (one : Option DirectiveView) (number start : ℕ) where
  pub goes_on : (k : ℕ) (after : List ℕ) → NoneBefore (Passes is_newline text) 0 (length text) k × Passes is_newline text k
      → line ≡ take k text → length line ≡ k → after ≡ drop (k + 1) text
      → more ≡ found ++ cons_option one [] → one ≡ directive_on number start line
      → more ++ directives_from (number + 1) (start + (k + 1)) (lines_of after) ≡ found ++ directives_from number start (lines_of text)
  goes_on k after first is_line size is_after added is =
      let cut = first_line text k first
      ∙ (ap (λ l. l ∷ lines_of (drop (k + 1) text)) (sym is_line) ∙ ap (λ t. line ∷ lines_of t) (sym is_after)) in
      line_added found more one number start line added is (lines_of after) (start + (k + 1)) (omega (arith, size))
      ∙ ap (λ ls. found ++ directives_from number start ls) (sym cut)

  pub ends : Nowhere (Passes is_newline text) 0 (length text) → more ≡ found ++ cons_option one []
      → one ≡ directive_on number start text → more ≡ found ++ directives_from number start (lines_of text)
  ends none added is =
      last_added found more one number start text added is
      ∙ ap (λ ls. found ++ directives_from number start ls) (sym (only_line text none))

-- lines without a mark have no directives
without : (lines : List (List ℕ)) (number start : ℕ) → ((k : ℕ) → OccursAt (join_with_byte 10 lines) mark k → ⊥)
    → directives_from number start lines ≡ []
without [] number start none = refl
without (line ∷ []) number start none =
    ap (λ p. cons_option (option_map (directive_at number start line) p) []) (lacks_all line none)
without (line ∷ next ∷ lines) number start none =
    let rest = join_with_byte 10 (next ∷ lines) in
    let here = lacks_all line (λ k occurs. none k (stands_first line mark (10 ∷ rest) k occurs)) in
    let later = without (next ∷ lines) (number + 1) (start + length line + 1)
    (λ k occurs. none _ (stands_later (10 ∷ rest) mark line _ (stands_later rest mark (10 ∷ []) k occurs))) in
    ap (λ p. cons_option (option_map (directive_at number start line) p) (directives_from (number + 1) (start + length line + 1) (next ∷ lines))) here
    ∙ later

none_in : (text : List ℕ) → Nowhere (OccursAt text mark) 0 (length text + 1) → directives_of text ≡ []
none_in text none =
    let whole = join_with_byte-slice_split 10 text in
    without (lines_of text) 1 0 (λ k occurs.
    let there = subst (λ t. OccursAt t mark k) whole occurs in
    none k (omega arith) (omega (arith, there.fits)) there)

pub none_without : (text needle : List ℕ) → needle ≡ mark → Nowhere (OccursAt text needle) 0 (length text + 1) → directives_of text ≡ []
none_without text needle is none = none_in text (subst (λ n. Nowhere (OccursAt text n) 0 (length text + 1)) is none)

-- a directive by its parts
abbrev pub directive_with : ℕ → ℕ → Bool → Option (List ℕ × List ℕ) → DirectiveView
directive_with number place alone what = record {
  line = number;
  offset = place;
  is_alone = alone;
  accepts = what;
}

pub same_directive : (number place : ℕ) (alone also_alone : Bool) (what also_what : Option (List ℕ × List ℕ))
    → alone ≡ also_alone → what ≡ also_what
    → directive_with number place alone what ≡ directive_with number place also_alone also_what
same_directive number place alone also_alone what also_what first second =
    ap (λ a. directive_with number place a what) first ∙ ap (directive_with number place also_alone) second
