use Rattle.std.proofs.Common.{◌≡◌, drop, map}
use Rattle.std.specs.List.{list_all}
use Rattle.events.specs.VariableViews.{variable_view}
use Rattle.checker.specs.CertificateTests.{is_row}
use Rattle.checker.specs.LaidOutViews.{states_view}
use Rattle.checker.proofs.rows.are_rows.Given as goal

-- the test of those that are left is that of all
abbrev pub invariant-loop-row : goal.invariant-loop-row
invariant-loop-row l =
    list_all (is_row l.edition (map variable_view l.variables)) (states_view (drop l.row-index l.states))
    ≡ list_all (is_row l.edition (map variable_view l.variables)) (states_view l.states)
