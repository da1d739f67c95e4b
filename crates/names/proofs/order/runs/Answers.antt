use Rattle.std.proofs.Common.{sym, subst}
use Rattle.names.specs.Ordered.{locals_view}
use Rattle.names.proofs.LocalRuns.{Next, kept-new, kept-same, kept-runs, kept-all}
use Rattle.names.proofs.order.runs.Goals.{then-ne, else-ne}
use Rattle.names.proofs.order.runs.Goals as goal

pub loop-index-preserved : goal.loop-index-preserved
loop-index-preserved c =
    let next : Next (locals_view c.args.ordered.now) c.loop-index.index c.if-ne.start = elim c.if-ne.branch [
      | then-ne w ↦
          subst (Next (locals_view c.args.ordered.now) c.loop-index.index) (sym w.start-is)
          (kept-new _ _ _ _ _ _ c.requires c.loop-index.invariant.starts c.loop-index-test.true c.ne.ensures w.if-ne.true)
      | else-ne w ↦
          subst (Next (locals_view c.args.ordered.now) c.loop-index.index) (sym w.start-is)
          (kept-same _ _ _ _ _ _ c.requires c.loop-index.invariant.starts c.loop-index-test.true c.ne.ensures w.if-ne.false)
    ] in
    record {
      starts = next.0;
      runs =
          kept-runs c.args.ordered.now c.loop-index.index c.if-ne.start _ c.loop-index.runs c.insert.new.self next
          c.loop-index-test.true c.in_ok-insert.ensures.updates c.loop-index.invariant.runs;
    }

pub returns : goal.returns
returns c =
    kept-all _ _ _ c.requires c.loop-index.invariant.runs c.loop-index-test.false c.loop-index.auto.index-end
