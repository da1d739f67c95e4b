use Rattle.package_list.proofs.OneList as law
use Rattle.package_list.proofs.one_answer.Goals as goal

pub returns : goal.returns
returns c = law.one_answer
