use Rattle.std.proofs.Common.{arith, ◌+◌, sym, subst}
use Rattle.meaning.specs.Tracked.{Left, left_local, lefts_of, is_variable}
use Rattle.mentions.specs.MarkViews.{form_view}
use Rattle.tracked_rows.specs.RowViews.{known_view}
use Rattle.std.specs.Prelude.{Bool, Option}
use Rattle.uses.proofs.LeftSides.{Counts, one_counted, none_counted}
use Rattle.uses.proofs.losses.times_left.Goals.{then-is_left, else-is_left}
use Rattle.uses.proofs.losses.times_left.Goals as goal

pub loop-index-preserved : goal.loop-index-preserved
loop-index-preserved c =
    let test : Option Left → Bool = λ l. is_variable (left_local (known_view c.args.known) l) c.args.number in
    let lefts = lefts_of (form_view c.args.row.form) in
    let index = c.loop-index.index in
    elim c.if-is_left.branch [
      | then-is_left w ↦
          subst (Counts test lefts (index + 1)) (sym w.times-is)
          (one_counted test lefts index c.loop-index.times (omega (arith, c.loop-index-test.true, c.count-index-end.ensures)) _
          c.is_left.ensures c.loop-index.invariant w.if-is_left.true)
      | else-is_left w ↦
          subst (Counts test lefts (index + 1)) (sym w.times-is)
          (none_counted test lefts index c.loop-index.times (omega (arith, c.loop-index-test.true, c.count-index-end.ensures)) _
          c.is_left.ensures c.loop-index.invariant w.if-is_left.false)
    ]
