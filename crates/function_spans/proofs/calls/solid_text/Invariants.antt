use Rattle.std.proofs.Common.{◌≡◌, ◌-◌, drop, length}
use Rattle.function_spans.specs.Calls.{solid_from}
use Rattle.function_spans.proofs.calls.solid_text.Given as goal

abbrev pub invariant-bytes : goal.invariant-bytes
invariant-bytes l = solid_from (drop l.at l.text) ≡ solid_from l.text

abbrev pub decreases-bytes : goal.decreases-bytes
decreases-bytes l = length l.text - l.at
