use Rattle.meaning.proofs.UsesJudged.{each_mention}
use Rattle.meaning.proofs.each_mention_is_one_of_three.Goals as goal

pub returns : goal.returns
returns c = each_mention
