use Rattle.unit_config.proofs.OneUnit as law
use Rattle.unit_config.proofs.one_answer.Goals as goal

pub returns : goal.returns
returns c = law.one_answer
