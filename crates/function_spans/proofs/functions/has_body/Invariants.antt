use Rattle.std.proofs.Common.{◌≡◌, ◌-◌, ◌≤◌, drop, length}
use Rattle.function_spans.specs.Bodies.{at_start}
use Rattle.function_spans.specs.Functions.{comes_to_body}
use Rattle.function_spans.proofs.functions.has_body.Given as goal

abbrev pub invariant-bytes : goal.invariant-bytes
invariant-bytes l =
    (l.scan.depth ≤ l.size) × (comes_to_body l.scan (drop l.size l.text) ≡ comes_to_body at_start l.text)

abbrev pub decreases-bytes : goal.decreases-bytes
decreases-bytes l = length l.text - l.size
