use Rattle.std.proofs.Common.{ap, ◌∙◌}
use Rattle.tree.proofs.Depths.{drop_item, drop_past}
use Rattle.tree.specs.View.{specs_syntax}
use Rattle.meaning.specs.StatementCode.{spec_events}
use Rattle.body_code.specs.SiteViews.{sites_view}
use Rattle.body_code.proofs.SpecEvents.{specs_more, more_events, all_events}
use Rattle.body_code.proofs.site.spec_events.Goals as goal

pub loop-spec-preserved : goal.loop-spec-preserved
loop-spec-preserved g c =
    let sites = sites_view c.args.sites.now in
    let items = drop_item c.args.specs.now c.loop-spec.spec-index c.spec-item.result c.loop-spec-test.true c.spec-item.is in
    more_events sites _ _ _ _ _ _ c.in_ok-add_spec.ensures
    (ap (λ l. spec_events sites (specs_syntax l)) items ∙ specs_more sites c.spec-item.result _)
    c.loop-spec.invariant

pub returns : goal.returns
returns g c =
    let sites = sites_view c.args.sites.now in
    let nothing = drop_past c.args.specs.now c.loop-spec.spec-index c.loop-spec-test.false in
    all_events sites _ _ _ (ap (λ l. spec_events sites (specs_syntax l)) nothing) c.loop-spec.invariant
