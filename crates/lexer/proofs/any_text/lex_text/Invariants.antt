use Rattle.std.proofs.Common.{◌≡◌, ◌+◌, length, drop}
use denote.Text.{Utf8}
use denote.Shadow.{shadow}
use Rattle.lexer.specs.Tokens.{mark_size}
use Rattle.lexer.proofs.Steps.{IsReadFrom}
use Rattle.lexer.proofs.any_text.lex_text.Given as goal

abbrev pub invariant-loop-rest : goal.invariant-loop-rest
invariant-loop-rest l = record {
  utf8 : shadow (Utf8 l.rest);
  size : l.at + length l.rest ≡ length l.text;
  read : IsReadFrom (mark_size l.text) (drop (mark_size l.text) l.text) l.rest l.at l.due l.tokens.items;
}

abbrev pub decreases-loop-rest : goal.decreases-loop-rest
decreases-loop-rest l = length l.rest
