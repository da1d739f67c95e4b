use Rattle.std.proofs.Common.{◌≡◌, ◌++◌, map, drop}
use Rattle.meaning.specs.FunctionFacts.{tracked_parameters}
use Rattle.names.specs.Answers.{declared_at}
use Rattle.facts.specs.FactViews.{item_view, parameter_view}
use Rattle.signatures.proofs.by_signature.tracked_parameters.Given as goal

abbrev pub invariant-loop-position : goal.invariant-loop-position
invariant-loop-position l =
    map parameter_view l.tracked.items ++ tracked_parameters (declared_at l.names l.file) l.position (map item_view (drop l.position l.params))
    ≡ tracked_parameters (declared_at l.names l.file) 0 (map item_view l.params)
