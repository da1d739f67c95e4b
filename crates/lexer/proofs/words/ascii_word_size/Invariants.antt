use Rattle.std.proofs.Common.{◌-◌, ◌≤◌, ◌<◌, ℕ, length, get_or}
use Rattle.std.specs.Prelude.{IsTrue}
use Rattle.lexer.specs.Letters.{is_ascii_letter_or_digit}
use Rattle.lexer.proofs.words.ascii_word_size.Given as goal

abbrev pub invariant-loop-size : goal.invariant-loop-size
invariant-loop-size l = record {
  positive : 0 < l.size;
  in_range : l.size ≤ length l.text;
  word : (i : ℕ) → 0 < i → i < l.size → IsTrue (is_ascii_letter_or_digit (get_or l.text i 0));
}

abbrev pub decreases-loop-size : goal.decreases-loop-size
decreases-loop-size l = length l.text - l.size
