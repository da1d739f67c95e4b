use Rattle.std.proofs.Common.{◌≡◌, map, drop}
use Rattle.facts.specs.FactViews.{cancel_result_view}
use Rattle.meaning.specs.Tracked.{is_given}
use Rattle.tracked_rows.proofs.makings.is_given.Given as goal

-- what is told of those that are left is told of all
abbrev pub invariant-loop-given : goal.invariant-loop-given
invariant-loop-given l =
    is_given l.number (map cancel_result_view (drop l.given-index l.gives))
    ≡ is_given l.number (map cancel_result_view l.gives)
