use Rattle.std.proofs.Common.{◌≡◌, drop, map}
use Rattle.std.specs.List.{list_all}
use Rattle.facts.specs.FactViews.{cancel_result_view}
use Rattle.vetx_tables.specs.KeptTables.{result_fits}
use Rattle.vetx_tables.proofs.fits.results_fit.Given as goal

-- the test of those that are left is that of all
abbrev pub invariant-loop-given : goal.invariant-loop-given
invariant-loop-given l =
    list_all result_fits (map cancel_result_view (drop l.given-index l.results))
    ≡ list_all result_fits (map cancel_result_view l.results)
