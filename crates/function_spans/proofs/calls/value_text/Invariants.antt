use Rattle.std.proofs.Common.{◌≡◌, ◌-◌, ◌≤◌, drop, length}
use Rattle.function_spans.specs.Bodies.{at_start}
use Rattle.function_spans.specs.Calls.{value_from}
use Rattle.function_spans.proofs.calls.value_text.Given as goal

abbrev pub invariant-bytes : goal.invariant-bytes
invariant-bytes l =
    (l.scan.depth ≤ l.at) × (value_from l.scan (drop l.at l.text) ≡ value_from at_start (drop l.offset l.text))

abbrev pub decreases-bytes : goal.decreases-bytes
decreases-bytes l = length l.text - l.at
