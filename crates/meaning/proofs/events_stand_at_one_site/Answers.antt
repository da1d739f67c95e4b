use Rattle.meaning.proofs.UsesJudged.{one_site}
use Rattle.meaning.proofs.events_stand_at_one_site.Goals as goal

pub returns : goal.returns
returns c = one_site
