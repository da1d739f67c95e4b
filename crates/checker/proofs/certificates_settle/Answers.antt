use Rattle.checker.proofs.CheckedLists.{settles_what_it_says}
use Rattle.checker.proofs.certificates_settle.Goals as goal

pub returns : goal.returns
returns c = settles_what_it_says
