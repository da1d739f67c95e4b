use Rattle.std.proofs.Common.{◌≡◌, ◌-◌, ◌≤◌, length, drop}
use Rattle.lexer.specs.Dispatch.{comment_end}
use Rattle.lexer.proofs.comments.general_comment_size.Given as goal

abbrev pub invariant-loop-size : goal.invariant-loop-size
invariant-loop-size l = record {
  in_range : l.size ≤ length l.text;
  to_come : comment_end l.size (drop l.size l.text) ≡ comment_end 2 (drop 2 l.text);
}

abbrev pub decreases-loop-size : goal.decreases-loop-size
decreases-loop-size l = length l.text - l.size
