-- The letters and digits of identifiers, by character and not by byte.
-- A letter is `_` or a character of a category Lu, Ll, Lt, Lm or Lo, and a digit is one of category Nd.
-- (The Go specification, "Characters" and "Letters and digits". The tables are those of the crate `unicode`.)
use Rattle.std.specs.Prelude.{◌≡◌, ℕ, Bool, true, false, ◌||◌, ◌==◌, IsTrue}
use Rattle.lexer.specs.Bytes.{underscore}
use Rattle.std.specs.Char.{is_ascii, is_ascii_alphabetic, is_ascii_digit}
use Rattle.unicode.specs.GeneralCategory.{general_category}
use Rattle.ucd_category.specs.declared.GeneralCategory.{GeneralCategory}
use Rattle.ucd_category.specs.declared.GeneralCategory.TheVariants.{UppercaseLetter, LowercaseLetter, TitlecaseLetter, ModifierLetter, OtherLetter, DecimalNumber}

-- the categories of letters
abbrev pub is_letter_category : GeneralCategory → Bool
is_letter_category UppercaseLetter = true
is_letter_category LowercaseLetter = true
is_letter_category TitlecaseLetter = true
is_letter_category ModifierLetter = true
is_letter_category OtherLetter = true
is_letter_category _ = false

-- the category of digits
abbrev pub is_digit_category : GeneralCategory → Bool
is_digit_category DecimalNumber = true
is_digit_category _ = false

-- the letters and digits of ASCII
abbrev pub is_ascii_letter : ℕ → Bool
is_ascii_letter c = is_ascii_alphabetic c || c == underscore

abbrev pub is_ascii_letter_or_digit : ℕ → Bool
is_ascii_letter_or_digit c = is_ascii_letter c || is_ascii_digit c

-- any character
unfoldable pub is_letter : ℕ → Bool
is_letter c = is_letter_category (general_category c) || c == underscore

unfoldable pub is_digit : ℕ → Bool
is_digit c = is_digit_category (general_category c)

-- the letters of ASCII are `_`, `A` to `Z` and `a` to `z`, and its digits `0` to `9`
abbrev pub AsciiLetters : Type 0
AsciiLetters = (c : ℕ) → IsTrue (is_ascii c) → (is_letter c ≡ is_ascii_letter c) × (is_digit c ≡ is_ascii_digit c)
