use Rattle.std.proofs.Common.{◌≡◌, ◌-◌, ◌≤◌, drop, length}
use Rattle.function_spans.specs.Bodies.{at_start}
use Rattle.function_spans.specs.Functions.{name_text}
use Rattle.function_spans.proofs.functions.named_text.Given as goal

abbrev pub invariant-bytes : goal.invariant-bytes
invariant-bytes l =
    (l.scan.depth ≤ l.at) × (name_text l.scan (drop l.at l.text) ≡ name_text at_start (drop 4 l.text))

abbrev pub decreases-bytes : goal.decreases-bytes
decreases-bytes l = length l.text - l.at
