use Rattle.lexer.proofs.AsciiLetters.{ascii_letters}
use Rattle.lexer.proofs.laws.ascii_letters.Goals as goal

pub returns : goal.returns
returns c = ascii_letters
