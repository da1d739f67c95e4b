use Rattle.std.proofs.Common.{◌≡◌, ◌-◌, ◌≤◌, None, drop, length}
use Rattle.function_spans.specs.Bodies.{at_start}
use Rattle.function_spans.specs.Functions.{open_from}
use Rattle.function_spans.proofs.functions.function_at.Given as goal

abbrev pub invariant-bytes : goal.invariant-bytes
invariant-bytes l =
    (l.scan.depth ≤ l.at) × (l.at ≤ l.offset)
    × (open_from l.scan l.at l.around (l.offset - l.at) (drop l.at l.text) ≡ open_from at_start 0 None l.offset l.text)

abbrev pub decreases-bytes : goal.decreases-bytes
decreases-bytes l = length l.text - l.at
