use Rattle.std.proofs.lemmas.List.{get_or_default}
use Rattle.lists.specs.ListViews.{items_at}
use Rattle.kept.specs.KeptViews.{keep_view}
use Rattle.kept.proofs.RowsTogether.{listed_next}
use Rattle.kept.proofs.sides.by_variable.Goals as goal

pub loop-keep-preserved : goal.loop-keep-preserved
loop-keep-preserved c = λ n.
    listed_next keep_view (λ k. k.variable) c.args.keeps.now c.loop-keep.keep-index _ c.loop-keep-test.true
    (get_or_default c.args.keeps.now c.loop-keep.keep-index _ _ c.loop-keep-test.true) n
    (items_at c.loop-keep.lists n) _ _ (c.in_ok-add.ensures n) (c.loop-keep.invariant n)
