use Rattle.std.proofs.Common.{◌≡◌, map, drop}
use Rattle.facts.specs.FactViews.{cancel_result_view}
use Rattle.meaning.specs.Tracked.{type_given}
use Rattle.tracked.proofs.obtainings.type_given.Given as goal

-- what is told of those that are left is told of all
abbrev pub invariant-loop-given : goal.invariant-loop-given
invariant-loop-given l =
    type_given l.number (map cancel_result_view (drop l.given-index l.gives))
    ≡ type_given l.number (map cancel_result_view l.gives)
