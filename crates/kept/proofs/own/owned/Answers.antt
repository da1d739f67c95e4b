use Rattle.std.proofs.Common.{map}
use Rattle.mentions.specs.MarkViews.{body_view}
use Rattle.tracked.specs.LocalViews.{entry_view, seen_view}
use Rattle.kept.proofs.Gatherings.{owned_found, none_owned}
use Rattle.kept.proofs.own.owned.Goals as goal

pub returns-in-Some : goal.returns-in-Some
returns-in-Some c =
    owned_found (seen_view c.args.seen.now) (map body_view c.args.bodies.now) _ _ (entry_view c.in-Some.entry)
    (rw c.in-Some.is at c.entry.ensures) c.owned_entry.ensures

pub returns-in-None : goal.returns-in-None
returns-in-None c =
    none_owned (seen_view c.args.seen.now) (map body_view c.args.bodies.now) _ (rw c.in-None.is at c.entry.ensures)
