use Rattle.std.proofs.Common.{◌++◌, map, refl, sym, ap, ◌∙◌}
use Rattle.facts.specs.FactViews.{item_view}
use Rattle.facts.proofs.FactParts.{on_ok}
use Rattle.meaning.specs.FunctionFacts.{items_of}
use Rattle.meaning.specs.Tracked.{result_locals}
use Rattle.meaning.specs.Uses.{result_faults}
use Rattle.mentions.specs.MarkViews.{body_view}
use Rattle.tracked_rows.specs.RowViews.{known_view}
use Rattle.tree.specs.View.{parameters_syntax}
use Rattle.uses.specs.OutcomeViews.{fault_view}
use Rattle.uses.proofs.NamedResults.{only_results}
use Rattle.uses.proofs.mark.add_body.Goals as goal

pub returns : goal.returns
returns c =
    let known = known_view c.args.known in
    let body = body_view c.args.body in
    on_ok c.add_results.result
    (λ h. h ∙ ap (λ is. map fault_view c.args.faults.now.items ++ result_faults (result_locals known body is))
    (ap (map item_view) c.deref-2.ensures.value ∙ c.in_ok-items.ensures ∙ ap (λ ps. items_of (parameters_syntax ps)) c.deref.ensures.value)
    ∙ ap (λ fs. map fault_view c.args.faults.now.items ++ fs) (sym (only_results known body _ _ _ refl)))
    c.add_results.ensures
