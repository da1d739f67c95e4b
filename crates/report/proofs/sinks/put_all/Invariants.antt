use Rattle.std.proofs.Common.{◌≡◌, ◌++◌, List, ℕ, length}
use Rattle.report.proofs.sinks.put_all.Given as goal

abbrev pub invariant-loop-rest : goal.invariant-loop-rest
invariant-loop-rest g l =
    ((front : List ℕ) × (l.bytes ≡ front ++ l.rest) × (g.S.Sink.taken l.sink ≡ g.S.Sink.taken l.initial.sink ++ front))
    × (g.S.Sink.refusals l.sink ≡ g.S.Sink.refusals l.initial.sink)

abbrev pub decreases-loop-rest : goal.decreases-loop-rest
decreases-loop-rest g l = length l.rest
