use Rattle.tracked.specs.LocalViews.{seen_view}
use Rattle.kept.proofs.PlacesGiven.{no_mention_given}
use Rattle.kept.proofs.holder.is_place_given.Goals as goal

pub returns-in_default : goal.returns-in_default
returns-in_default c = no_mention_given (seen_view c.args.seen.now) c.args.object c.args.mark c.in_default.not-Mentions
