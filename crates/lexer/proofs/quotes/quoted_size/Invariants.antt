use Rattle.std.proofs.Common.{◌≡◌, ◌-◌, ◌≤◌, ◌<◌, false, length, drop}
use Rattle.lexer.specs.Dispatch.{closing}
use Rattle.lexer.proofs.quotes.quoted_size.Given as goal

abbrev pub invariant-loop-size : goal.invariant-loop-size
invariant-loop-size l = record {
  positive : 0 < l.size;
  in_range : l.size ≤ length l.text;
  to_come : closing l.quote l.escaped l.size (drop l.size l.text) ≡ closing l.quote false 1 (drop 1 l.text);
}

abbrev pub decreases-loop-size : goal.decreases-loop-size
decreases-loop-size l = length l.text - l.size
