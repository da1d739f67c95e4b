use Rattle.std.proofs.Common.{map}
use Rattle.certificates.proofs.rows.row_of.Given as goal
use Rattle.certificates.specs.Rows.{arriving, AreMasks}
use Rattle.events.specs.VariableViews.{variable_view}

-- the masks so far
abbrev pub invariant-loop-place : goal.invariant-loop-place
invariant-loop-place g l =
    AreMasks (arriving (g.A.Arrivals.cancels l.arrivals) (g.A.Arrivals.groups l.arrivals) l.groups) l.node
    (map variable_view l.variables) l.row.items l.place
