-- Functions and literals that are open at an offset, one byte of the text after the other.
use Rattle.std.proofs.Common.{◌≡◌, ◌∙◌, ◌+◌, ◌-◌, ◌<◌, ◌≤◌, ◌||◌, ℕ, zero, suc, Bool, true, false, List, ◌∷◌, length, get_or, drop, refl, sym, ap, arith, Option}
use Rattle.std.proofs.lemmas.List.{at_drop_all, drop_more}
use Rattle.function_spans.specs.declared.bodies.Scan.{Scan}
use Rattle.function_spans.specs.Bodies.{after, at_start}
use Rattle.function_spans.specs.Functions.{in_literal_from, is_in_literal, literal_holds, open_behind, open_from, open_with, solid_after}

-- how many bytes are left to an offset
one_left : (n offset : ℕ) → n < offset → offset - n ≡ suc (offset - (n + 1))
one_left n offset below = omega (arith, below)

module _ (s : Scan) (text : List ℕ) (n offset : ℕ) where
  module _ (around : Option ℕ) where
    pub open_here : n < length text → n ≡ offset → open_from s n around (offset - n) (drop n text) ≡ open_with s n around (drop n text)
    open_here inside here =
        let is = drop_more text n 0 inside in
        let none : offset - n ≡ 0 = omega (arith, here) in
        (λ i. open_from s n around (none i) (is i)) ∙ ap (open_with s n around) (sym is)

    pub open_on : (next : Scan) (opened : Option ℕ) → n < length text → n < offset
        → opened ≡ open_behind s n around (drop n text) → next ≡ after s (drop n text)
        → open_from next (n + 1) opened (offset - (n + 1)) (drop (n + 1) text) ≡ open_from s n around (offset - n) (drop n text)
    open_on next opened inside below o a =
        let is = drop_more text n 0 inside in
        let left = offset - (n + 1) in
        let rest = drop (n + 1) text in
        let front : open_from next (n + 1) opened left rest ≡ open_from (after s (get_or text n 0 ∷ rest)) (n + 1) (open_behind s n around (get_or text n 0 ∷ rest)) left rest
        = λ i. open_from ((a ∙ ap (after s) is) i) (n + 1) ((o ∙ ap (open_behind s n around) is) i) left rest in
        front ∙ (λ i. open_from s n around (sym (one_left n offset below) i) (sym is i))

    pub open_past : length text ≤ n → open_from s n around (offset - n) (drop n text) ≡ around
    open_past past = at_drop_all (open_from s n around (offset - n)) text n past

  module _ (before : ℕ) where
    by_left : (left : ℕ) (holds : Bool) → offset - n ≡ left → n < length text → literal_holds s before (offset - n) (drop n text) ≡ holds
        → in_literal_from s before (offset - n) (drop n text) ≡ in_literal_from s before left (get_or text n 0 ∷ drop (n + 1) text)
    by_left left holds l inside h = λ i. in_literal_from s before (l i) (drop_more text n 0 inside i)

    same_test : (left : ℕ) (holds : Bool) → offset - n ≡ left → n < length text → literal_holds s before (offset - n) (drop n text) ≡ holds
        → literal_holds s before left (get_or text n 0 ∷ drop (n + 1) text) ≡ holds
    same_test left holds l inside h = (λ i. literal_holds s before (sym l i) (sym (drop_more text n 0 inside) i)) ∙ h

    -- by what is left, as a number that is none or the next one of another
    literal_by : (left : ℕ) (b : ℕ) (bs : List ℕ) → literal_holds s before left (b ∷ bs) ≡ true → in_literal_from s before left (b ∷ bs) ≡ true
    literal_by zero b bs h = h
    literal_by (suc left) b bs h = ap (λ t. t || in_literal_from (after s (b ∷ bs)) (solid_after before b) left bs) h

    pub literal_is : n < length text → literal_holds s before (offset - n) (drop n text) ≡ true
        → in_literal_from s before (offset - n) (drop n text) ≡ true
    literal_is inside h =
        by_left (offset - n) true refl inside h
        ∙ literal_by (offset - n) (get_or text n 0) (drop (n + 1) text) (same_test (offset - n) true refl inside h)

    pub no_literal : n < length text → literal_holds s before (offset - n) (drop n text) ≡ false → offset ≤ n
        → in_literal_from s before (offset - n) (drop n text) ≡ false
    no_literal inside h past =
        let none : offset - n ≡ 0 = omega (arith, past) in
        by_left 0 false none inside h ∙ same_test 0 false none inside h

    pub literal_on : (next : Scan) (byte : ℕ) → n < length text → literal_holds s before (offset - n) (drop n text) ≡ false
        → n < offset → byte ≡ solid_after before (get_or text n 0) → next ≡ after s (drop n text)
        → in_literal_from next byte (offset - (n + 1)) (drop (n + 1) text) ≡ in_literal_from s before (offset - n) (drop n text)
    literal_on next byte inside h below b a =
        let left = offset - (n + 1) in
        let rest = drop (n + 1) text in
        let more = one_left n offset below in
        let front : in_literal_from next byte left rest ≡ in_literal_from (after s (get_or text n 0 ∷ rest)) (solid_after before (get_or text n 0)) left rest
        = λ i. in_literal_from ((a ∙ ap (after s) (drop_more text n 0 inside)) i) (b i) left rest in
        front
        ∙ sym (by_left (suc left) false more inside h
        ∙ ap (λ t. t || in_literal_from (after s (get_or text n 0 ∷ rest)) (solid_after before (get_or text n 0)) left rest) (same_test (suc left) false more inside h))

    pub literal_past : length text ≤ n → in_literal_from s before (offset - n) (drop n text) ≡ false
    literal_past past = at_drop_all (in_literal_from s before (offset - n)) text n past

-- behind the end of a text is no literal
pub behind_end : (text : List ℕ) (function offset : ℕ) → length text ≤ function → is_in_literal text function offset ≡ false
behind_end text function offset past =
    at_drop_all
    (in_literal_from (after at_start (drop function text)) (get_or text function 0) (offset - (function + 1)))
    text (function + 1) (omega (arith, past))
