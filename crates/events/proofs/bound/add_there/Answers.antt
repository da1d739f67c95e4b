use Rattle.std.proofs.Common.{map}
use Rattle.mentions.specs.MarkViews.{body_view}
use Rattle.tracked.specs.LocalViews.{seen_view}
use Rattle.events.proofs.Bounds.{others_bind_none}
use Rattle.events.proofs.bound.add_there.Goals as goal

pub returns-in_default : goal.returns-in_default
returns-in_default c = λ body number.
    others_bind_none (seen_view c.args.seen.now) body number (map body_view c.args.bodies.now) c.args.mark.now
    c.in_default.not-Mentions _
