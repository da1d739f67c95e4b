use Rattle.std.proofs.Common.{map}
use Rattle.certificates.proofs.rows.rows_with.Given as goal
use Rattle.certificates.specs.Rows.{arriving, AreRows}
use Rattle.events.specs.VariableViews.{variable_view}

-- the rows so far
abbrev pub invariant-loop-place : goal.invariant-loop-place
invariant-loop-place g l =
    AreRows (arriving (g.A.Arrivals.cancels l.arrivals) (g.A.Arrivals.groups l.arrivals) l.groups)
    (map variable_view l.variables) l.order l.rows.items l.place-index
