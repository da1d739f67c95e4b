use Rattle.std.proofs.Common.{◌||◌, ◌==◌, sym, ap, ◌∙◌}
use Rattle.std.proofs.lemmas.Bool.{ltb-true, or_left}
use Rattle.lexer.proofs.AsciiLetters.{letter_ascii}
use Rattle.lexer.proofs.letters.is_letter.Goals as goal

pub returns-then-is_ascii_alphabetic : goal.returns-then-is_ascii_alphabetic
returns-then-is_ascii_alphabetic c =
    let small = ltb-true _ _ (sym c.is_ascii.ensures ∙ c.if-is_ascii.true) in
    let letter = sym c.is_ascii_alphabetic.ensures.value ∙ c.if-is_ascii_alphabetic.true in
    c.if-is_ascii_alphabetic.true ∙ sym (letter_ascii c.args.c small ∙ or_left _ _ letter)

pub returns-else-is_ascii_alphabetic : goal.returns-else-is_ascii_alphabetic
returns-else-is_ascii_alphabetic c =
    let small = ltb-true _ _ (sym c.is_ascii.ensures ∙ c.if-is_ascii.true) in
    let other = sym c.is_ascii_alphabetic.ensures.value ∙ c.if-is_ascii_alphabetic.false in
    sym (letter_ascii c.args.c small ∙ ap (λ t. t || c.args.c == 95) other)
