use Rattle.std.proofs.Common.{nat_eq}
use Rattle.lists.specs.ListViews.{items_at}
use Rattle.events.proofs.Bounds.{number_there}
use Rattle.events.proofs.bound.add_number.Goals as goal

pub returns : goal.returns
returns c = λ body other.
    number_there (nat_eq c.args.body body) (items_at c.args.bound.now body) _ c.args.number other
    (c.in_ok-add.ensures body)
