use Rattle.std.proofs.Common.{◌≡◌, drop, map}
use Rattle.std.specs.List.{list_all}
use Rattle.facts.specs.FactViews.{parameter_view}
use Rattle.vetx_tables.specs.KeptTables.{parameter_fits}
use Rattle.vetx_tables.proofs.fits.parameters_fit.Given as goal

-- the test of those that are left is that of all
abbrev pub invariant-loop-parameter : goal.invariant-loop-parameter
invariant-loop-parameter l =
    list_all parameter_fits (map parameter_view (drop l.parameter-index l.parameters))
    ≡ list_all parameter_fits (map parameter_view l.parameters)
