use Rattle.std.proofs.Common.{◌≡◌, length}
use Rattle.format_parts.specs.Pieces.{spelled}
use Rattle.format_parts.proofs.Steps.{Goes}
use Rattle.format_parts.proofs.strings.put_spelled.Given as goal

abbrev pub invariant-loop-rest : goal.invariant-loop-rest
invariant-loop-rest g l =
    Goes (spelled l.spelling l.bytes) (g.S.Sink.taken l.initial.sink) (g.S.Sink.taken l.sink) (spelled l.spelling l.rest)
    × (g.S.Sink.refusals l.sink ≡ g.S.Sink.refusals l.initial.sink)

abbrev pub decreases-loop-rest : goal.decreases-loop-rest
decreases-loop-rest g l = length l.rest
