use Rattle.std.proofs.Common.{◌≡◌, ◌++◌, map, drop}
use Rattle.meaning.specs.FunctionFacts.{cancel_results}
use Rattle.names.specs.Answers.{declared_at}
use Rattle.facts.specs.FactViews.{item_view, cancel_result_view}
use Rattle.facts.proofs.given.cancel_results.Given as goal

abbrev pub invariant-loop-position : goal.invariant-loop-position
invariant-loop-position l =
    map cancel_result_view l.gives.items ++ cancel_results (declared_at l.names l.file) l.position (map item_view (drop l.position l.results))
    ≡ cancel_results (declared_at l.names l.file) 0 (map item_view l.results)
