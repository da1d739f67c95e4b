use Rattle.std.proofs.Common.{◌≡◌, ◌++◌, Some, map, drop}
use Rattle.facts.specs.FactViews.{facts_view}
use Rattle.calls_flags.specs.Claims.{claim_view, variable_claims}
use Rattle.path_faults.specs.FoundFaults.{each_from}
use Rattle.events.specs.VariableViews.{variable_view}
use Rattle.calls_flags.proofs.claims.add_variables.Given as goal

-- what was added, with what is left, is the whole
abbrev pub invariant-loop-place : goal.invariant-loop-place
invariant-loop-place l =
    let gives = variable_claims (Some (facts_view l.function.facts.now)) l.function.file l.function.body l.function.name.now in
    map claim_view l.claims.items ++ each_from gives l.place (map variable_view (drop l.place l.variables))
    ≡ map claim_view l.initial.claims.items ++ each_from gives 0 (map variable_view l.variables)
