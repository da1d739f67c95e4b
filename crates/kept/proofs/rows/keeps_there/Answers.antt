use Rattle.std.proofs.Common.{◌++◌, map, ap, ◌∙◌}
use Rattle.mentions.specs.MarkViews.{body_view, mark_view}
use Rattle.tracked.specs.LocalViews.{seen_view}
use Rattle.meaning.specs.Kept.{keeps_there}
use Rattle.kept.specs.KeptViews.{keep_view}
use Rattle.kept.proofs.rows.keeps_there.Goals as goal

pub returns : goal.returns
returns c =
    c.in_ok-add_keeps.ensures
    ∙ ap (λ ks. map keep_view ks ++ keeps_there (seen_view c.args.around.seen.now)
    (map body_view c.args.around.bodies.now) (mark_view c.args.mark)) c.new-keeps.ensures.items
