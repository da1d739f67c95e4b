use Rattle.marks.proofs.WalkSteps.{none_left}
use Rattle.uses.proofs.sent.is_last.Goals as goal

pub returns : goal.returns
returns c = none_left c.args.list.now c.args.index c.requires
