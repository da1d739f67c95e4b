use Rattle.std.proofs.Common.{◌≡◌, ◌++◌, drop, map}
use Rattle.facts.specs.FactViews.{cancel_result_view}
use Rattle.vetx_tables.specs.KeptTables.{results_by_position}
use Rattle.vetx_tables.proofs.again.results_by_position.Given as goal

-- those so far, with those of what is left, are all
abbrev pub invariant-loop-position : goal.invariant-loop-position
invariant-loop-position l =
    map cancel_result_view l.results.items ++ results_by_position l.left (drop l.position-index l.causes)
    ≡ results_by_position l.gives l.causes
