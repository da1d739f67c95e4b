use Rattle.std.proofs.Common.{map, ap}
use Rattle.tree.proofs.Depths.{drop_item, drop_past}
use Rattle.body_parts.specs.PartViews.{part_view}
use Rattle.body_code.specs.SiteViews.{sites_view}
use Rattle.code.proofs.CodeLists.{pushed, all_pushed}
use Rattle.body_code.proofs.Parts.{part_codes, chosen_part}
use Rattle.body_code.proofs.jumping.one_part.Goals as goal

pub loop-part-preserved : goal.loop-part-preserved
loop-part-preserved g c =
    let items = drop_item c.args.parts.now c.loop-part.part-index c.part-item.result c.loop-part-test.true c.part-item.is in
    pushed c.loop-part.codes.items c.push.new.self.items c.in_ok-code.code _ _ _ _ c.in_ok-push.ensures.items
    c.in_ok-code.ensures (ap (λ l. part_codes (sites_view c.args.sites.now) (map part_view l)) items) c.loop-part.invariant

pub returns : goal.returns
returns g c =
    let nothing = drop_past c.args.parts.now c.loop-part.part-index c.loop-part-test.false in
    chosen_part (sites_view c.args.sites.now) _ c.loop-part.codes.items c.push-2.new.self.items _
    (all_pushed c.loop-part.codes.items _ _ (ap (λ l. part_codes (sites_view c.args.sites.now) (map part_view l)) nothing)
    c.loop-part.invariant)
    c.in_ok-push-2.ensures.items c.one_of.ensures
