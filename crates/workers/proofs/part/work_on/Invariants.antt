use Rattle.std.proofs.Common.{take}
use Rattle.workers.specs.Pieces.{ComeOf}
use Rattle.workers.proofs.part.work_on.Given as goal

-- this came of the items before
abbrev pub invariant-loop-number : goal.invariant-loop-number
invariant-loop-number g l = ComeOf (g.J.Piece.gives l.job) l.first (take l.number l.items) l.found.items
