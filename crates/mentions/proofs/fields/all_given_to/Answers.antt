use Rattle.std.proofs.Common.{ap}
use Rattle.meaning.specs.Mentions.{all_given_to}
use Rattle.mentions.specs.MarkViews.{taker_view}
use Rattle.tree.specs.View.{expressions_syntax}
use Rattle.tree.proofs.Depths.{drop_item, drop_past}
use Rattle.mentions.proofs.Adding.{adds_next, adds_all}
use Rattle.mentions.proofs.fields.all_given_to.Goals as goal

pub loop-item-preserved : goal.loop-item-preserved
loop-item-preserved c =
    let items = drop_item c.args.list.now c.loop-item.item-index c.item-item.result c.loop-item-test.true c.item-item.is in
    adds_next _ _ _ _ _ _ c.loop-item.invariant
    (ap (λ l. all_given_to c.args.site (taker_view c.args.taker) (expressions_syntax l)) items)
    c.in_ok-given_to.ensures

pub returns : goal.returns
returns c =
    let nothing = drop_past c.args.list.now c.loop-item.item-index c.loop-item-test.false in
    adds_all c.args.marks.now.list.items _ _
    (all_given_to c.args.site (taker_view c.args.taker) (expressions_syntax c.args.list.now)) c.loop-item.invariant
    (ap (λ l. all_given_to c.args.site (taker_view c.args.taker) (expressions_syntax l)) nothing)
