use Rattle.std.proofs.Common.{◌∙◌}
use Rattle.printed.proofs.WrittenParts.{writes_next}
use Rattle.printed.proofs.printing.print.Goals as goal

pub loop-rest-preserved : goal.loop-rest-preserved
loop-rest-preserved g c = (
  writes_next (g.W.Write.contents c.args.out.now) (g.W.Write.contents c.loop-rest.out)
      (g.W.Write.contents c.write_some.new.out) c.args.text.now c.loop-rest.rest.now c.split_at.result.1.now
      c.in_ok-count.count c.split_at.ensures.back c.in_ok-count.ensures.takes c.loop-rest.invariant.0,
  c.in_ok-count.ensures.refused ∙ c.loop-rest.invariant.1,
)
