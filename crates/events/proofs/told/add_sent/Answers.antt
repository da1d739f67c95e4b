use Rattle.std.proofs.Common.{◌&&◌, ◌++◌, map, ap, ◌∙◌}
use Rattle.facts.proofs.FactParts.{on_ok}
use Rattle.mentions.specs.MarkViews.{body_view, mark_view}
use Rattle.meaning.specs.BodyEvents.{is_site}
use Rattle.meaning.specs.Uses.{is_body}
use Rattle.events.specs.ToldViews.{events_in, if_there}
use Rattle.events.proofs.told.add_sent.Goals as goal

pub returns : goal.returns
returns c =
    let bodies = map body_view c.args.bodies.now in
    let mark = mark_view c.args.mark.now in
    on_ok c.add_event.result
    (λ added body at. added body at
    ∙ ap (λ es. events_in c.args.events.now body at ++ if_there (is_body body bodies && is_site mark at) es)
    c.in_ok-event.ensures)
    c.add_event.ensures
