use Rattle.mentions.proofs.SingleLists.{is_one-length}
use Rattle.mentions.proofs.parts.is_one.Goals as goal

pub returns : goal.returns
returns c = is_one-length c.args.list.now
