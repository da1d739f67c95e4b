use Rattle.std.proofs.Common.{◌≡◌, ◌++◌, drop, map}
use Rattle.events.specs.VariableViews.{variable_view}
use Rattle.meaning.specs.FunctionFacts.{cancel, group}
use Rattle.checker.specs.Loaded.{numbers_of}
use Rattle.checker.proofs.laid_out.numbers_of.Given as goal

-- what was added, with what is left, is the whole
abbrev pub invariant-loop-variable : goal.invariant-loop-variable
invariant-loop-variable l =
    (l.cancels.items ++ numbers_of cancel (map variable_view (drop l.variable-index l.variables))
    ≡ numbers_of cancel (map variable_view l.variables))
    × (l.groups.items ++ numbers_of group (map variable_view (drop l.variable-index l.variables))
    ≡ numbers_of group (map variable_view l.variables))
