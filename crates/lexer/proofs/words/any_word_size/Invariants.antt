use Rattle.std.proofs.Common.{length}
use Rattle.lexer.proofs.Names.{IsWordRead}
use Rattle.lexer.proofs.words.any_word_size.Given as goal

abbrev pub invariant-loop-c : goal.invariant-loop-c
invariant-loop-c l = IsWordRead l.text (length l.yielded) l.size
