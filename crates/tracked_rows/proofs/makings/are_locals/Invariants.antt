use Rattle.std.proofs.Common.{◌≡◌, map, drop}
use Rattle.facts.specs.FactViews.{cancel_result_view}
use Rattle.mentions.specs.MarkViews.{row_view}
use Rattle.meaning.specs.Tracked.{are_locals}
use Rattle.tracked_rows.specs.RowViews.{known_view}
use Rattle.tracked_rows.proofs.makings.are_locals.Given as goal

-- what is told of those that are left is told of all
abbrev pub invariant-loop-given : goal.invariant-loop-given
invariant-loop-given l =
    are_locals (known_view l.known) (row_view l.row) (map cancel_result_view (drop l.given-index l.gives))
    ≡ are_locals (known_view l.known) (row_view l.row) (map cancel_result_view l.gives)
