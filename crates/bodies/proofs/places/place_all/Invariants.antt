use Rattle.std.proofs.Common.{map}
use Rattle.events.specs.VariableViews.{variable_view}
use Rattle.bodies.specs.Places.{ArePlaced}
use Rattle.bodies.proofs.places.place_all.Given as goal

-- the variables so far have places
abbrev pub invariant-loop-variable : goal.invariant-loop-variable
invariant-loop-variable l = ArePlaced (map variable_view l.variables) l.variable-index l.places
