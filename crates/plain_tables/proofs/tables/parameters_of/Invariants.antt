use Rattle.std.proofs.Common.{◌≡◌, ◌++◌, map, drop}
use Rattle.std.specs.Prelude.{flat_map}
use Rattle.facts.specs.FactViews.{parameter_view}
use Rattle.called_parameters.specs.Called.{is_called}
use Rattle.plain_tables.specs.Tables.{as_list, parameter_told}
use Rattle.plain_tables.proofs.tables.parameters_of.Given as goal

-- what was found, with what is left, is the whole
abbrev pub invariant-loop-parameter : goal.invariant-loop-parameter
invariant-loop-parameter l =
    l.parameters.items
    ++ flat_map (λ p. as_list (parameter_told (is_called l.called l.name) p))
    (map parameter_view (drop l.parameter-index l.tracked))
    ≡ flat_map (λ p. as_list (parameter_told (is_called l.called l.name) p)) (map parameter_view l.tracked)
