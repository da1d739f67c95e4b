use Rattle.std.proofs.Common.{refl}
use Rattle.tracked_rows.specs.RowViews.{known_view}
use Rattle.tracked.proofs.BoundAgain.{tells_unbound}
use Rattle.tracked.proofs.unbound.objects_in.Goals as goal

pub returns : goal.returns
returns c =
    tells_unbound (known_view c.args.known) _ _ refl c.in_ok-locals.locals c.in_ok-bound.bound c.in_ok-locals.ensures
    c.in_ok-bound.ensures
