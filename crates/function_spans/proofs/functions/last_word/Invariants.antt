use Rattle.std.proofs.Common.{◌≡◌, ◌-◌, ◌≤◌, [], drop, length}
use Rattle.function_spans.specs.Bodies.{at_start}
use Rattle.function_spans.specs.Functions.{last_word}
use Rattle.function_spans.proofs.functions.last_word.Given as goal

abbrev pub invariant-bytes : goal.invariant-bytes
invariant-bytes l =
    (l.scan.depth ≤ l.at) × (last_word l.scan l.found (drop l.at l.text) ≡ last_word at_start [] (drop 4 l.text))

abbrev pub decreases-bytes : goal.decreases-bytes
decreases-bytes l = length l.text - l.at
