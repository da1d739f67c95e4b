use Rattle.std.proofs.Common.{◌+◌, drop, map, ap, ◌∙◌}
use Rattle.tree.proofs.Depths.{drop_item}
use Rattle.tree.specs.View.{expression_syntax, expressions_syntax}
use Rattle.facts.specs.FactViews.{cancel_result_view}
use Rattle.mentions.specs.MarkViews.{body_view}
use Rattle.tracked.specs.LocalViews.{seen_view}
use Rattle.meaning.specs.BodyEvents.{handed_item, handed_on}
use Rattle.kept_forms.proofs.AddedParts.{adds_same, adds_then, adds_next}
use Rattle.kept_events.proofs.KeptParts.{handed_first}
use Rattle.kept_events.proofs.events.handed_on.Goals as goal

pub loop-position-preserved : goal.loop-position-preserved
loop-position-preserved c =
    let seen = seen_view c.args.file.seen.now in
    let bodies = map body_view c.args.bodies.now in
    let k = c.loop-position.position in
    let e = expression_syntax c.index-values-position.result in
    let items = drop_item c.args.values.now k c.index-values-position.result c.loop-position-test.true c.index-values-position.is in
    adds_next _ _ _ _ _ _ c.loop-position.invariant
    (ap (λ l. handed_on seen bodies k (expressions_syntax l)) items
    ∙ handed_first seen bodies k e (expressions_syntax (drop (k + 1) c.args.values.now)))
    (adds_then _ _ _ _ _
    (adds_same _ _ _ _ (ap (λ gs. handed_item seen gs k e) (ap (map cancel_result_view) c.deref.ensures.value ∙ c.in_ok-gives.ensures))
    c.in_ok-add_item.ensures)
    c.in_ok-add_item_fields.ensures)
