use Rattle.meaning.specs.Tracked.{left_local, lefts_of, is_variable}
use Rattle.mentions.specs.MarkViews.{form_view}
use Rattle.tracked_rows.specs.RowViews.{known_view}
use Rattle.uses.proofs.LeftSides.{Counts}
use Rattle.uses.proofs.losses.times_left.Given as goal

abbrev pub invariant-loop-index : goal.invariant-loop-index
invariant-loop-index l =
    Counts (λ n. is_variable (left_local (known_view l.known) n) l.number) (lefts_of (form_view l.row.form)) l.index l.times
