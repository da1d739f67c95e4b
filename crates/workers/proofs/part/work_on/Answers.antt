use Rattle.std.proofs.Common.{arith}
use Rattle.workers.proofs.Parts.{come_more}
use Rattle.workers.proofs.part.work_on.Goals as goal

pub loop-number-preserved : goal.loop-number-preserved
loop-number-preserved g c =
    come_more (g.J.Piece.gives c.args.job.now) c.args.first c.args.items.now c.loop-number.number
    c.index-items-number.result c.loop-number.found.items c.push.new.self.items c.in_ok-work.field-0
    c.loop-number.invariant (omega arith) c.index-items-number.is c.in_ok-work.ensures c.in_ok-push.ensures.items
