use Rattle.std.proofs.Common.{◌≡◌, ◌-◌, ◌≤◌, drop, length}
use Rattle.function_spans.specs.Functions.{in_literal_from, is_in_literal}
use Rattle.function_spans.proofs.functions.is_in_literal.Given as goal

abbrev pub invariant-bytes : goal.invariant-bytes
invariant-bytes l =
    (l.scan.depth ≤ l.at)
    × (in_literal_from l.scan l.before (l.offset - l.at) (drop l.at l.text) ≡ is_in_literal l.text l.function l.offset)

abbrev pub decreases-bytes : goal.decreases-bytes
decreases-bytes l = length l.text - l.at
