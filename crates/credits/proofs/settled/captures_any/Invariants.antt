use Rattle.std.proofs.Common.{◌≡◌, drop, map}
use Rattle.events.specs.VariableViews.{variable_view}
use Rattle.credits.specs.SettledVariables.{captures_any}
use Rattle.credits.proofs.settled.captures_any.Given as goal

-- whether one that is left is captured, is whether one is
abbrev pub invariant-loop-variable : goal.invariant-loop-variable
invariant-loop-variable l =
    captures_any (map variable_view (drop l.variable-index l.variables)) ≡ captures_any (map variable_view l.variables)
