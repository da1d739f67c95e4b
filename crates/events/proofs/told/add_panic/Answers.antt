use Rattle.std.proofs.Common.{map, ap}
use Rattle.facts.proofs.FactParts.{on_ok}
use Rattle.mentions.specs.MarkViews.{body_view, mark_view, mention_view}
use Rattle.tracked_rows.specs.RowViews.{known_view}
use Rattle.events.proofs.Grown.{mark_panics}
use Rattle.events.proofs.told.add_panic.Goals as goal

pub returns-in-Some-Mentions : goal.returns-in-Some-Mentions
returns-in-Some-Mentions c =
    on_ok c.add_site.result
    (mark_panics (map body_view c.args.bodies.now) (mark_view c.args.mark.now) c.innermost.result c.in-Some-Mentions.body
    c.in-Some-Mentions.is-0 c.innermost.ensures (known_view c.args.known.now) (mention_view c.in-Some-Mentions.mention)
    (ap mark_view c.in-Some-Mentions.is-1) c.is_panic.result c.is_panic.ensures c.args.panics.now c.add_site.new.panics)
    c.add_site.ensures
