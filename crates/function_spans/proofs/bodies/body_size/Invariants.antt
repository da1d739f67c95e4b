use Rattle.std.proofs.Common.{◌≡◌, ◌+◌, ◌-◌, ◌≤◌, drop, length}
use Rattle.function_spans.specs.Bodies.{at_start, size_from}
use Rattle.function_spans.proofs.bodies.body_size.Given as goal

-- what was passed, with what is left, is the whole
abbrev pub invariant-bytes : goal.invariant-bytes
invariant-bytes l = record {
  depth : l.scan.depth ≤ l.size;
  within : l.size ≤ length l.text;
  is : l.size + size_from l.scan (drop l.size l.text) ≡ size_from at_start l.text;
}

abbrev pub decreases-bytes : goal.decreases-bytes
decreases-bytes l = length l.text - l.size
