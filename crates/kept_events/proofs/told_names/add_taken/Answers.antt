use Rattle.std.proofs.Common.{[], if◌then◌else◌, map, sym, ap, ◌∙◌}
use Rattle.facts.proofs.FactParts.{on_ok}
use Rattle.mentions.specs.MarkViews.{body_view}
use Rattle.tracked.specs.LocalViews.{seen_view}
use Rattle.tree.specs.Syntax.{missing_expression}
use Rattle.tree.specs.View.{expression_syntax}
use Rattle.meaning.specs.Kept.{gifts}
use Rattle.meaning.specs.KeepingFields.{carried_fields, gift_elements}
use Rattle.kept_forms.proofs.AddedParts.{adds_same, adds_none_of}
use Rattle.kept_events.proofs.told_names.add_taken.Goals as goal

pub returns-then-not-takes_it : goal.returns-then-not-takes_it
returns-then-not-takes_it c = λ site.
    let given = gift_elements (gifts missing_expression (expression_syntax c.args.value.now)) in
    adds_none_of _ _
    (ap (λ b. carried_fields (seen_view c.args.here.around.seen.now) (map body_view c.args.here.around.bodies.now) (if b then given else []))
    (sym c.if-not-takes_it.true ∙ c.takes_it.ensures))

pub returns : goal.returns
returns c =
    let given = gift_elements (gifts missing_expression (expression_syntax c.args.value.now)) in
    on_ok c.add_value.result
    (λ added site. adds_same _ _ _ _
    (ap (λ b. carried_fields (seen_view c.args.here.around.seen.now) (map body_view c.args.here.around.bodies.now) (if b then given else []))
    (sym c.if-not-takes_it.false ∙ c.takes_it.ensures)) added)
    c.add_value.ensures
