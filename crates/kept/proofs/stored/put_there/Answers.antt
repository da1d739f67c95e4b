use Rattle.std.proofs.Common.{map, sym, ap, ◌∙◌}
use Rattle.mentions.specs.MarkViews.{body_view, field_left_view}
use Rattle.tracked.specs.LocalViews.{seen_view}
use Rattle.meaning.specs.Kept.{own_cancel}
use Rattle.kept.specs.KeptViews.{put_in}
use Rattle.kept.proofs.stored.put_there.Goals as goal

pub returns-in-Some : goal.returns-in-Some
returns-in-Some c =
    let seen = seen_view c.args.seen.now in
    c.put_in.ensures
    ∙ ap (put_in seen (field_left_view c.args.left))
    (c.own_cancel-variable.ensures ∙ ap (own_cancel seen (map body_view c.args.bodies.now)) c.stored_name.ensures)

pub returns-in-None : goal.returns-in-None
returns-in-None c =
    let seen = seen_view c.args.seen.now in
    ap (put_in seen (field_left_view c.args.left))
    (sym c.in-None.is ∙ c.own_cancel-variable.ensures
    ∙ ap (own_cancel seen (map body_view c.args.bodies.now)) c.stored_name.ensures)
