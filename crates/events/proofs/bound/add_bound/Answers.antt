use Rattle.std.proofs.Common.{map}
use Rattle.facts.proofs.FactParts.{on_ok}
use Rattle.mentions.specs.MarkViews.{body_view, mark_view}
use Rattle.tracked.specs.LocalViews.{seen_view}
use Rattle.meaning_packages.specs.Credits.{binds_there}
use Rattle.events.proofs.Bounds.{none_in_first, all_in_second}
use Rattle.events.proofs.bound.add_bound.Goals as goal

pub returns-in-First : goal.returns-in-First
returns-in-First c = λ body number.
    none_in_first _
    (binds_there (seen_view c.args.seen.now) body number (map body_view c.args.bodies.now) (mark_view c.args.mark.now))
    c.args.seen.now.known.edition c.in-First.is

pub returns-in-Second : goal.returns-in-Second
returns-in-Second c =
    on_ok c.add_there.result
    (λ added body number.
    all_in_second _ _
    (binds_there (seen_view c.args.seen.now) body number (map body_view c.args.bodies.now) (mark_view c.args.mark.now))
    c.args.seen.now.known.edition c.in-Second.is (added body number))
    c.add_there.ensures
