use Rattle.std.proofs.Common.{◌≡◌, Bool, ◌||◌, map, drop}
use Rattle.std.specs.List.{list_all}
use Rattle.facts.specs.FactViews.{cancel_result_view}
use Rattle.mentions.specs.MarkViews.{row_view}
use Rattle.meaning.specs.FunctionFacts.{CancelResult}
use Rattle.meaning.specs.Tracked.{is_outer_at}
use Rattle.meaning.specs.Uses.{is_cancel, kind_at}
use Rattle.tracked.specs.LocalViews.{seen_view}
use Rattle.tracked.proofs.bound.are_cancels.Given as goal

-- what is told of those that are left is told of all
abbrev pub invariant-loop-given : goal.invariant-loop-given
invariant-loop-given l =
    let is_one : CancelResult → Bool = λ g.
    is_cancel (kind_at (seen_view l.seen) (row_view l.row) g.position)
    || is_outer_at (seen_view l.seen).known (row_view l.row) g.position in
    list_all is_one (map cancel_result_view (drop l.given-index l.gives)) ≡ list_all is_one (map cancel_result_view l.gives)
