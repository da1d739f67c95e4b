use Rattle.std.proofs.Common.{nat_eq}
use Rattle.lists.specs.ListViews.{items_at}
use Rattle.events.proofs.Grown.{site_there}
use Rattle.events.proofs.told.add_site.Goals as goal

pub returns-in_ok-add : goal.returns-in_ok-add
returns-in_ok-add c = λ body at.
    site_there (nat_eq c.args.body body) (items_at c.args.panics.now body) _ c.args.site at c.args.panics_there
    c.if-panics_there.true (c.in_ok-add.ensures body)
