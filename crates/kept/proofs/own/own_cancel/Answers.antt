use Rattle.std.proofs.Common.{map, ap, ◌∙◌}
use Rattle.mentions.specs.MarkViews.{body_view}
use Rattle.tracked.specs.LocalViews.{seen_view}
use Rattle.meaning.specs.Uses.{found}
use Rattle.meaning.specs.Kept.{owned}
use Rattle.kept.proofs.own.own_cancel.Goals as goal

pub returns : goal.returns
returns c =
    c.owned.ensures
    ∙ ap (λ n. owned (seen_view c.args.seen.now) (map body_view c.args.bodies.now) (found (seen_view c.args.seen.now) n))
    c.local_named.ensures
