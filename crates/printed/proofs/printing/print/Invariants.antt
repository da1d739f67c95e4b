use Rattle.std.proofs.Common.{◌≡◌, length}
use Rattle.printed.proofs.WrittenParts.{WritesSo}
use Rattle.printed.proofs.printing.print.Given as goal

-- what was written so far, and that no write was refused
abbrev pub invariant-loop-rest : goal.invariant-loop-rest
invariant-loop-rest g l =
    WritesSo (g.W.Write.contents l.initial.out) (g.W.Write.contents l.out) l.text l.rest
    × (l.refusals.any ≡ l.initial.refusals.any)

abbrev pub decreases-loop-rest : goal.decreases-loop-rest
decreases-loop-rest g l = length l.rest
