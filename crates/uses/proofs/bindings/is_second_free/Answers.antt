use Rattle.std.proofs.Common.{not, sym, ap}
use Rattle.tracked.specs.LocalViews.{seen_view}
use Rattle.meaning.specs.Uses.{has_tracked_in}
use Rattle.uses.proofs.LeftSides.{second_missing}
use Rattle.uses.proofs.bindings.is_second_free.Goals as goal

pub returns-in-None : goal.returns-in-None
returns-in-None c =
    rw c.in-Assigns.is
    (ap (λ e. not (has_tracked_in (seen_view c.args.seen.now) e)) (sym (second_missing c.in-Assigns.left.now c.in-None.ensures.lookup.3)))
