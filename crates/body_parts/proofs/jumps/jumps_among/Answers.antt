use Rattle.std.proofs.Common.{map, ap, ◌∙◌}
use Rattle.tree.proofs.Depths.{drop_item, drop_past}
use Rattle.body_parts.specs.PartViews.{part_view}
use Rattle.meaning.specs.Jumps.{jumps_among}
use Rattle.body_parts.proofs.AddedParts.{jumps_more, jump_next, jumps_all}
use Rattle.body_parts.proofs.jumps.jumps_among.Goals as goal

pub loop-part-preserved : goal.loop-part-preserved
loop-part-preserved c =
    let items = drop_item c.args.parts.now c.loop-part.part-index c.part-item.result c.loop-part-test.true c.part-item.is in
    jump_next _ _ _ _ _ _ c.loop-part.invariant
    (ap (λ l. jumps_among (map part_view l)) items ∙ jumps_more (part_view c.part-item.result) _) c.in_ok-add_jump.ensures

pub returns : goal.returns
returns c =
    let nothing = drop_past c.args.parts.now c.loop-part.part-index c.loop-part-test.false in
    jumps_all _ _ _ c.loop-part.invariant (ap (λ l. jumps_among (map part_view l)) nothing)
