use Rattle.std.proofs.Common.{◌≡◌, ◌++◌, drop, map}
use Rattle.facts.specs.FactViews.{parameter_view}
use Rattle.declared_tables.specs.DeclaredTables.{parameter_of}
use Rattle.declared_tables.proofs.functions.parameters_of.Given as goal

-- what was found, with what is left, is the whole
abbrev pub invariant-loop-parameter : goal.invariant-loop-parameter
invariant-loop-parameter l =
    map parameter_view l.found.items ++ map parameter_of (drop l.parameter-index l.params) ≡ map parameter_of l.params
