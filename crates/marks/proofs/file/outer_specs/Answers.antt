use Rattle.std.proofs.Common.{ap, ◌∙◌}
use Rattle.tree.specs.View.{specs_syntax}
use Rattle.tree.proofs.Depths.{drop_item, drop_past}
use Rattle.meaning.specs.Mentions.{outer_specs_marks}
use Rattle.marks.proofs.AddingBy.{adds_next, adds_all}
use Rattle.marks.proofs.OuterMarks.{outer_specs_more}
use Rattle.marks.proofs.file.outer_specs.Goals as goal

pub loop-item-preserved : goal.loop-item-preserved
loop-item-preserved c =
    let items = drop_item c.args.list.now c.loop-item.item-index c.item-item.result c.loop-item-test.true c.item-item.is in
    adds_next _ _ _ _ _ _ _ c.loop-item.invariant (ap (λ l. outer_specs_marks (specs_syntax l)) items ∙ outer_specs_more _ _) c.in_ok-outer_spec.ensures

pub returns : goal.returns
returns c =
    adds_all c.args.walk.now _ _ (outer_specs_marks (specs_syntax c.args.list.now)) c.loop-item.invariant
    (ap (λ l. outer_specs_marks (specs_syntax l)) (drop_past c.args.list.now c.loop-item.item-index c.loop-item-test.false))
