use Rattle.std.proofs.Common.{nat_eq}
use Rattle.facts.proofs.FactParts.{on_ok}
use Rattle.lists.specs.ListViews.{items_at}
use Rattle.events.proofs.Grown.{event_there}
use Rattle.events.proofs.told.add_site_event.Goals as goal

pub returns : goal.returns
returns c =
    on_ok c.add.result
    (λ h body at. event_there (nat_eq c.args.body body) (items_at c.args.events.now body) _ record { site = c.args.site; event = c.args.event } at (h body))
    c.add.ensures
