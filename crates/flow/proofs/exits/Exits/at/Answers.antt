use Rattle.std.proofs.Common.{sym, ◌∙◌}
use Rattle.code.specs.CodeViews.{way_view}
use Rattle.flow.proofs.Ways.{way_found, way_passed, no_way}
use Rattle.flow.proofs.exits.Exits.at.Goals as goal

pub returns-then-leads_there : goal.returns-then-leads_there
returns-then-leads_there c =
    way_found c.deref-exit-items.result.now c.loop-exit.exit-index c.exit-item.result c.loop-exit-test.true
    c.exit-item.is (way_view c.args.way) _ c.deref.result.now c.loop-exit.invariant (sym c.leads_there.ensures ∙ c.if-leads_there.true) c.deref.ensures.value

pub loop-exit-preserved : goal.loop-exit-preserved
loop-exit-preserved c =
    way_passed c.deref-exit-items.result.now c.loop-exit.exit-index c.exit-item.result c.loop-exit-test.true
    c.exit-item.is (way_view c.args.way) _ c.loop-exit.invariant (sym c.leads_there.ensures ∙ c.if-leads_there.false)

pub returns : goal.returns
returns c = no_way c.deref-exit-items.result.now c.loop-exit.exit-index (way_view c.args.way) _ c.loop-exit-test.false c.loop-exit.invariant
