use Rattle.std.proofs.Common.{map}
use Rattle.facts.proofs.FactParts.{on_ok}
use Rattle.mentions.specs.MarkViews.{body_view, mark_view}
use Rattle.events.proofs.Grown.{mark_event}
use Rattle.events.proofs.told.add_event.Goals as goal

pub returns-in-Some-Some-Some : goal.returns-in-Some-Some-Some
returns-in-Some-Some-Some c =
    on_ok c.add_site_event.result
    (mark_event (map body_view c.args.bodies.now) (mark_view c.args.mark.now) c.innermost.result c.in-Some-Some-Some.body
    c.in-Some-Some-Some.is-0 c.innermost.ensures c.site_of.result c.in-Some-Some-Some.site c.in-Some-Some-Some.is-1
    c.site_of.ensures c.args.event c.in-Some-Some-Some.event c.in-Some-Some-Some.is-2 c.args.events.now
    c.add_site_event.new.events)
    c.add_site_event.ensures
