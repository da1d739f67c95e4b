use Rattle.std.proofs.Common.{◌++◌, ap, ◌∙◌}
use Rattle.body_code.specs.SiteViews.{sites_view}
use Rattle.code.proofs.Codes.{on_ok}
use Rattle.body_code.proofs.SpecEvents.{events_of-Value, events_of-Type}
use Rattle.body_code.proofs.site.add_spec.Goals as goal

pub returns-in-Value : goal.returns-in-Value
returns-in-Value g c =
    on_ok c.add_site.result
    (λ h. h ∙ ap (λ l. c.args.events.now.items ++ l)
    (events_of-Value (sites_view c.args.sites.now) c.args.spec.now _ _ _ _ c.in-Value.is))
    c.add_site.ensures

pub returns-in-Type : goal.returns-in-Type
returns-in-Type g c =
    on_ok c.add_site-in-Type.result
    (λ h. h ∙ ap (λ l. c.args.events.now.items ++ l)
    (events_of-Type (sites_view c.args.sites.now) c.args.spec.now _ _ _ _ _ c.in-Type.is))
    c.add_site-in-Type.ensures
