use Rattle.std.proofs.Common.{◌≡◌, ◌-◌, ◌≤◌, drop, length}
use Rattle.function_spans.specs.Steps.{end_from, statement_end}
use Rattle.function_spans.proofs.steps.statement_end.Given as goal

abbrev pub invariant-bytes : goal.invariant-bytes
invariant-bytes l =
    (l.scan.depth ≤ l.at)
    × (end_from l.is_header l.scan l.in_literal l.before l.at l.end (drop l.at l.text) ≡ statement_end l.text l.offset)

abbrev pub decreases-bytes : goal.decreases-bytes
decreases-bytes l = length l.text - l.at
