use Rattle.std.proofs.Common.{map, refl, ap, ◌∙◌, ◌++◌}
use Rattle.meaning.specs.FunctionFacts.{tracked_parameters, parameter_at}
use Rattle.names.specs.Answers.{declared_at}
use Rattle.facts.specs.FactViews.{item_view, parameter_view}
use Rattle.facts.proofs.Counted.{counts_on}
use Rattle.signatures.proofs.by_signature.tracked_parameters.Goals as goal

pub loop-position-preserved : goal.loop-position-preserved
loop-position-preserved c =
    counts_on (λ k xs. tracked_parameters (declared_at c.args.names.now c.args.file) k (map item_view xs)) _ c.args.params.now
    c.loop-position.position c.index-params-position.result c.loop-position-test.true c.index-params-position.is refl _ _ _
    (c.in_ok-add_tracked.ensures ∙ ap (λ k. map parameter_view c.loop-position.tracked.items ++ parameter_at c.loop-position.position k) c.item_type.ensures)
    c.loop-position.invariant
