use Rattle.std.proofs.Common.{◌≡◌, ◌++◌, drop, map}
use Rattle.std.specs.Prelude.{flat_map}
use Rattle.facts.specs.FactViews.{cancel_result_view, type_view}
use Rattle.plain_tables.specs.Tables.{result_told}
use Rattle.plain_tables.proofs.tables.positions_of.Given as goal

-- what was found, with what is left, is the whole
abbrev pub invariant-loop-given : goal.invariant-loop-given
invariant-loop-given l =
    l.found.items ++ flat_map (result_told (type_view l.wanted)) (map cancel_result_view (drop l.given-index l.gives))
    ≡ flat_map (result_told (type_view l.wanted)) (map cancel_result_view l.gives)
