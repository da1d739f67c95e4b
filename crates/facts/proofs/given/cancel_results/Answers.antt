use Rattle.std.proofs.Common.{map, refl, ap, ◌∙◌, ◌++◌}
use Rattle.meaning.specs.FunctionFacts.{cancel_results, given_at}
use Rattle.names.specs.Answers.{declared_at}
use Rattle.facts.specs.FactViews.{item_view, cancel_result_view}
use Rattle.facts.proofs.Counted.{counts_on}
use Rattle.facts.proofs.given.cancel_results.Goals as goal

pub loop-position-preserved : goal.loop-position-preserved
loop-position-preserved c =
    counts_on (λ k xs. cancel_results (declared_at c.args.names.now c.args.file) k (map item_view xs)) _ c.args.results.now
    c.loop-position.position c.index-results-position.result c.loop-position-test.true c.index-results-position.is refl _ _ _
    (c.in_ok-add_given.ensures ∙ ap (λ k. map cancel_result_view c.loop-position.gives.items ++ given_at c.loop-position.position k) c.item_type.ensures)
    c.loop-position.invariant
