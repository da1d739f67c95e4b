use Rattle.std.proofs.Common.{map}
use Rattle.mentions.specs.MarkViews.{body_view}
use Rattle.tracked.specs.LocalViews.{entry_view, seen_view}
use Rattle.kept.proofs.Gatherings.{declared_found, none_declared}
use Rattle.kept.proofs.around.is_declared_in.Goals as goal

pub returns-in-Some : goal.returns-in-Some
returns-in-Some c =
    declared_found (seen_view c.args.seen.now) (map body_view c.args.bodies.now) _ (entry_view c.in-Some.entry)
    (rw c.in-Some.is at c.entry.ensures) _ c.is_body.ensures

pub returns-in-None : goal.returns-in-None
returns-in-None c =
    none_declared (seen_view c.args.seen.now) (map body_view c.args.bodies.now) _ (rw c.in-None.is at c.entry.ensures)
