use Rattle.std.proofs.Common.{◌++◌, Some, map, sym, ap, ◌∙◌}
use Rattle.facts.proofs.FactParts.{on_ok}
use Rattle.facts.specs.FactViews.{facts_by_name, facts_view}
use Rattle.calls_flags.proofs.ClaimsAdded.{none_named, none_added, some_added}
use Rattle.calls_flags.specs.Claims.{claim_view, claims_with, function_name}
use Rattle.meaning.specs.BodyEvents.{unfollowed_faults, variables_of}
use Rattle.calls_flags.proofs.claims.add_body.Goals as goal

pub returns-in_default : goal.returns-in_default
returns-in_default c = λ file seen b tells.
    none_named (facts_by_name c.args.table.now) file c.args.place b (unfollowed_faults seen b) (variables_of seen b.at)
    (ap function_name (sym tells.is_place) ∙ sym c.in_default.ensures) (map claim_view c.args.claims.now.items)

pub returns-in_default-facts : goal.returns-in_default-facts
returns-in_default-facts c = λ file seen b tells.
    none_added (facts_by_name c.args.table.now) file c.args.place b (unfollowed_faults seen b) (variables_of seen b.at) c.in-Some.name.now
    (ap function_name (sym tells.is_place) ∙ sym c.in-Some.ensures) (sym c.in_default-facts.ensures)
    (map claim_view c.args.claims.now.items)

pub returns : goal.returns
returns c =
    on_ok c.add_function.result
    (λ adds file seen b tells.
    let before = map claim_view c.args.claims.now.items in
    some_added (facts_by_name c.args.table.now) file c.args.place b (unfollowed_faults seen b) (variables_of seen b.at) c.in-Some.name.now
    (facts_view c.in-Some-facts.facts.now)
    (ap function_name (sym tells.is_place) ∙ sym c.in-Some.ensures) (sym c.in-Some-facts.ensures)
    before (map claim_view c.add_function.new.claims.items)
    (adds file seen b tells
    ∙ ap (λ n. before ++ claims_with (Some (facts_view c.in-Some-facts.facts.now)) n c.args.place c.in-Some.name.now (unfollowed_faults seen b) (variables_of seen b.at))
    tells.is_file))
    c.add_function.ensures
