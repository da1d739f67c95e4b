use Rattle.std.proofs.Common.{◌++◌, Some, map, ap, ◌∙◌}
use Rattle.facts.proofs.FactParts.{on_ok}
use Rattle.facts.specs.FactViews.{facts_view}
use Rattle.calls_flags.proofs.ClaimsAdded.{none_unfollowed, all_followed}
use Rattle.calls_flags.specs.Claims.{claim_view, variable_claims}
use Rattle.events.specs.VariableViews.{variable_view}
use Rattle.meaning.specs.BodyEvents.{unfollowed_faults, variables_of}
use Rattle.path_faults.specs.FoundFaults.{each_from}
use Rattle.calls_flags.proofs.claims.add_function.Goals as goal

pub returns-then-body : goal.returns-then-body
returns-then-body c = λ file seen b tells.
    let function = c.args.function.now in
    none_unfollowed (Some (facts_view function.facts.now)) function.file function.body function.name.now
    (unfollowed_faults seen b) (variables_of seen b.at)
    c.args.body.now.is_unfollowed tells.unfollowed c.if-body.true (map claim_view c.args.claims.now.items)

pub returns : goal.returns
returns c =
    on_ok c.add_variables.result
    (λ adds file seen b tells.
    let function = c.args.function.now in
    let gives = variable_claims (Some (facts_view function.facts.now)) function.file function.body function.name.now in
    let before = map claim_view c.args.claims.now.items in
    all_followed (Some (facts_view function.facts.now)) function.file function.body function.name.now
    (unfollowed_faults seen b) (variables_of seen b.at)
    c.args.body.now.is_unfollowed tells.unfollowed c.if-body.false before
    (map claim_view c.add_variables.new.claims.items)
    (adds ∙ ap (λ vs. before ++ each_from gives 0 vs)
    (ap (map variable_view) c.deref.ensures.value ∙ tells.are_variables)))
    c.add_variables.ensures
