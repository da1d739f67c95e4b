use Rattle.std.proofs.Common.{◌+◌, drop, map, ap, ◌∙◌}
use Rattle.tree.proofs.Depths.{drop_item}
use Rattle.tree.specs.View.{expression_syntax, expressions_syntax}
use Rattle.mentions.specs.MarkViews.{body_view, call_view}
use Rattle.tracked.specs.LocalViews.{seen_view}
use Rattle.meaning.specs.BodyEvents.{sent_from}
use Rattle.uses.proofs.SentParts.{adds_next, sent_first}
use Rattle.uses.proofs.sent.all_sent.Goals as goal

pub loop-index-preserved : goal.loop-index-preserved
loop-index-preserved c =
    let seen = seen_view c.args.there.seen.now in
    let bodies = map body_view c.args.there.bodies.now in
    let call = call_view c.args.there.call in
    let k = c.loop-index.index in
    let e = expression_syntax c.index-arguments-index.result in
    let items = drop_item c.args.arguments.now k c.index-arguments-index.result c.loop-index-test.true c.index-arguments-index.is in
    adds_next _ _ _ _ _ _ c.loop-index.invariant
    (ap (λ l. sent_from seen bodies call k (expressions_syntax l)) items
    ∙ sent_first seen bodies call k c.is_last.result e (expressions_syntax (drop (k + 1) c.args.arguments.now)) c.is_last.ensures)
    c.in_ok-add_argument.ensures
