use Rattle.std.proofs.Common.{map, ap, ◌∙◌}
use Rattle.meaning.specs.FunctionFacts.{items_of}
use Rattle.meaning.specs.Tracked.{parameter_locals, result_locals}
use Rattle.tree.specs.View.{parameters_syntax}
use Rattle.facts.specs.FactViews.{item_view}
use Rattle.facts.proofs.FactParts.{on_ok}
use Rattle.mentions.specs.MarkViews.{body_view}
use Rattle.tracked_rows.specs.RowViews.{known_view}
use Rattle.tracked.proofs.Added.{adds_both}
use Rattle.tracked.proofs.declared.add_signature.Goals as goal

pub returns : goal.returns
returns c =
    on_ok c.add_results.result
    (adds_both c.args.locals.now c.add_parameters.new.locals c.add_results.new.locals _ _ _ _
    (ap (parameter_locals (known_view c.args.known) (body_view c.args.body) 0)
    (ap (map item_view) c.deref-3.ensures.value ∙ c.in_ok-params.ensures
    ∙ ap (λ ps. items_of (parameters_syntax ps)) c.deref.ensures.value))
    (ap (result_locals (known_view c.args.known) (body_view c.args.body))
    (ap (map item_view) c.deref-4.ensures.value ∙ c.in_ok-results.ensures
    ∙ ap (λ ps. items_of (parameters_syntax ps)) c.deref-2.ensures.value))
    c.in_ok-add_parameters.ensures)
    c.add_results.ensures
