use Rattle.std.proofs.Common.{sym, ◌∙◌}
use Rattle.std.proofs.lemmas.Bool.{ltb-true}
use Rattle.lexer.proofs.AsciiLetters.{digit_ascii}
use Rattle.lexer.proofs.letters.is_digit.Goals as goal

pub returns-then-is_ascii : goal.returns-then-is_ascii
returns-then-is_ascii c =
    let small = ltb-true _ _ (sym c.is_ascii.ensures ∙ c.if-is_ascii.true) in
    c.is_ascii_digit.ensures.value ∙ sym (digit_ascii c.args.c small)
