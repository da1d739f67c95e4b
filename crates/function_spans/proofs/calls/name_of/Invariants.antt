use Rattle.std.proofs.Common.{◌≡◌, ◌-◌, ◌≤◌, ◌++◌, drop, take, length}
use Rattle.function_spans.specs.Calls.{name_of}
use Rattle.function_spans.proofs.calls.name_of.Given as goal

abbrev pub invariant-bytes : goal.invariant-bytes
invariant-bytes l = (l.size ≤ length l.text) × (take l.size l.text ++ name_of (drop l.size l.text) ≡ name_of l.text)

abbrev pub decreases-bytes : goal.decreases-bytes
decreases-bytes l = length l.text - l.size
