use Rattle.std.proofs.Common.{◌-◌, ◌≤◌, ◌<◌, ℕ, length, get_or}
use Rattle.std.specs.Prelude.{IsTrue}
use Rattle.lexer.specs.Pieces.{goes_on}
use Rattle.lexer.proofs.numbers.number_size.Given as goal

abbrev pub invariant-loop-size : goal.invariant-loop-size
invariant-loop-size l = record {
  positive : 0 < l.size;
  in_range : l.size ≤ length l.text;
  number : (i : ℕ) → 0 < i → i < l.size → IsTrue (goes_on l.hexadecimal (get_or l.text (i - 1) 0) (get_or l.text i 0));
}

abbrev pub decreases-loop-size : goal.decreases-loop-size
decreases-loop-size l = length l.text - l.size
