use Rattle.std.proofs.Common.{◌≡◌, ◌+◌, ◌≤◌, ◌&&◌, drop, filter, length}
use Rattle.report_json.specs.Turns.{is_at, is_loop, turn_of}
use Rattle.report_json.proofs.turns.turn_of.Given as goal

abbrev pub invariant-loop-other : goal.invariant-loop-other
invariant-loop-other l =
    (l.turn ≤ l.other-index + 1)
    × (l.turn + length (filter (λ other. is_loop other.text && is_at l.note other) (drop l.other-index l.before)) ≡ turn_of l.before l.note)
