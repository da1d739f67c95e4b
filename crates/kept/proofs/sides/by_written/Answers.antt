use Rattle.std.proofs.lemmas.List.{get_or_default}
use Rattle.lists.specs.ListViews.{items_at}
use Rattle.kept.specs.KeptViews.{write_view}
use Rattle.kept.proofs.RowsTogether.{listed_next}
use Rattle.kept.proofs.sides.by_written.Goals as goal

pub loop-write-preserved : goal.loop-write-preserved
loop-write-preserved c = λ n.
    listed_next write_view (λ w. w.object) c.args.writes.now c.loop-write.write-index _ c.loop-write-test.true
    (get_or_default c.args.writes.now c.loop-write.write-index _ _ c.loop-write-test.true) n
    (items_at c.loop-write.lists n) _ _ (c.in_ok-add.ensures n) (c.loop-write.invariant n)
