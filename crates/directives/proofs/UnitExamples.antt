-- Lines with directives, and what these accept.
use Rattle.std.proofs.Common.{◌≡◌, ℕ, Bool, true, false, List, [], ◌∷◌, Option, Some, None, codes, refl}
use Rattle.directives.specs.Directives.{DirectiveView, directives_of}
use Rattle.directives.specs.Forms.{accepted, names_code}

-- a directive by its line, its offset, whether it is alone, and what it accepts
abbrev told : ℕ → ℕ → Bool → Option (List ℕ × List ℕ) → DirectiveView
told number place alone what = record { line = number; offset = place; is_alone = alone; accepts = what }

abbrev for_a_reason : Option (List ℕ × List ℕ)
for_a_reason = Some (codes "LC05,LC07", codes "a reason")

two_lines : directives_of (codes "f() //ctxvet:accept LC05,LC07  a reason \t\r\n\t //ctxvet:accept LC05,LC07 a reason")
    ≡ told 1 4 false for_a_reason ∷ told 2 45 true for_a_reason ∷ []
two_lines = refl

behind_letters : directives_of (codes "x//ctxvet:accept LC05 a\n///ctxvet:accept LC05 a\n\n") ≡ []
behind_letters = refl

the_first_free_one : directives_of (codes "\nx//ctxvet:accept //ctxvet:accept LC05,LC07 a reason")
    ≡ told 2 18 false for_a_reason ∷ []
the_first_free_one = refl

the_first_one_alone : directives_of (codes "//ctxvet:accept //ctxvet:accept LC05 a") ≡ told 1 0 true None ∷ []
the_first_one_alone = refl

cut_off : directives_of (codes " //ctxvet:accep\n//ctxvet:accept") ≡ told 2 16 true None ∷ []
cut_off = refl

one_code : accepted (codes " LC10 x") ≡ Some (codes "LC10", codes "x")
one_code = refl

no_reason : accepted (codes " LC05") ≡ None
no_reason = refl

empty_reason : accepted (codes " LC05 \t \r") ≡ None
empty_reason = refl

small_letters : accepted (codes " lc05 x") ≡ None
small_letters = refl

one_digit : accepted (codes " LC5 x") ≡ None
one_digit = refl

three_digits : accepted (codes " LC005 x") ≡ None
three_digits = refl

blank_between_codes : accepted (codes " LC05, LC06 x") ≡ None
blank_between_codes = refl

two_commas : accepted (codes " LC05,,LC06 x") ≡ None
two_commas = refl

tab_before_codes : accepted (codes "\tLC05 x") ≡ None
tab_before_codes = refl

tab_before_reason : accepted (codes " LC05\tx") ≡ None
tab_before_reason = refl

two_blanks_before_codes : accepted (codes "  LC05 x") ≡ None
two_blanks_before_codes = refl

longer_word : accepted (codes "ed LC05 x") ≡ None
longer_word = refl

one_of_two : names_code (codes "LC05,LC07") (codes "LC07") ≡ true
one_of_two = refl

part_of_one : names_code (codes "LC05,LC07") (codes "LC0") ≡ false
part_of_one = refl
