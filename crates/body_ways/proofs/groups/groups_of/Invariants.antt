use Rattle.std.proofs.Common.{◌≡◌, ◌++◌, drop, map}
use Rattle.bodies.specs.OwnGroups.{groups_of}
use Rattle.events.specs.VariableViews.{variable_view}
use Rattle.body_ways.proofs.groups.groups_of.Given as goal

-- what was added, with the groups of what is left, is all groups
abbrev pub invariant-loop-variable : goal.invariant-loop-variable
invariant-loop-variable l =
    l.groups.items ++ groups_of (map variable_view (drop l.variable-index l.variables))
    ≡ groups_of (map variable_view l.variables)
