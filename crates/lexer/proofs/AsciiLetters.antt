-- Of ASCII, the categories of letters and digits have just the letters and digits of ASCII.
use Rattle.std.proofs.Common.{◌≡◌, ℕ, ◌<◌, true, refl}
use Rattle.std.specs.Char.{is_ascii_digit}
use Rattle.std.proofs.lemmas.Bool.{agree_below, agree_below_at, ltb-true}
use Rattle.ucd_table.specs.Rows.{value_in}
use Rattle.ucd_category.specs.GeneralCategory.{general_category}
use Rattle.ucd_category.specs.GeneralCategoryRows.{general_category_rows}
use Rattle.lexer.specs.Letters.{is_ascii_letter, is_letter, is_digit, AsciiLetters}

letters_agree : agree_below is_letter is_ascii_letter 128 ≡ true
unfolding is_letter general_category value_in general_category_rows
letters_agree = refl

digits_agree : agree_below is_digit is_ascii_digit 128 ≡ true
unfolding is_digit general_category value_in general_category_rows
digits_agree = refl

pub letter_ascii : (c : ℕ) → c < 128 → is_letter c ≡ is_ascii_letter c
letter_ascii c h = agree_below_at is_letter is_ascii_letter 128 c letters_agree h

pub digit_ascii : (c : ℕ) → c < 128 → is_digit c ≡ is_ascii_digit c
digit_ascii c h = agree_below_at is_digit is_ascii_digit 128 c digits_agree h

pub ascii_letters : AsciiLetters
ascii_letters c h = let small = ltb-true c 128 h in (letter_ascii c small, digit_ascii c small)
