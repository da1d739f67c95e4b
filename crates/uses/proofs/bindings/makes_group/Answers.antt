use Rattle.std.proofs.Common.{arith, ap, ◌∙◌}
use Rattle.tracked.specs.LocalViews.{seen_view}
use Rattle.meaning.specs.Uses.{is_made, binding_at}
use Rattle.mentions.specs.MarkViews.{row_view}
use Rattle.uses.proofs.LeftSides.{below_fails}
use Rattle.uses.proofs.bindings.makes_group.Goals as goal

pub loop-index-preserved : goal.loop-index-preserved
loop-index-preserved c =
    below_fails (λ k. is_made (binding_at (seen_view c.args.seen.now) (row_view c.args.row) k)) c.loop-index.index _
    (omega (arith, c.loop-index-test.true)) _ (c.is_made.ensures ∙ ap is_made c.in_ok-binding.ensures) c.if-is_made.false _ c.loop-index.invariant
