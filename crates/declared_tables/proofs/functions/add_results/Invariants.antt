use Rattle.std.proofs.Common.{◌≡◌, ◌++◌, drop, map}
use Rattle.facts.specs.FactViews.{cancel_result_view, type_view}
use Rattle.declared_tables.specs.DeclaredTables.{results_of}
use Rattle.declared_tables.proofs.functions.add_results.Given as goal

-- what was added, with what is left, is the whole
abbrev pub invariant-loop-position : goal.invariant-loop-position
invariant-loop-position l =
    map cancel_result_view l.gives.items ++ results_of (type_view l.cancel_type) (drop l.position-index l.positions)
    ≡ map cancel_result_view l.initial.gives.items ++ results_of (type_view l.cancel_type) l.positions
