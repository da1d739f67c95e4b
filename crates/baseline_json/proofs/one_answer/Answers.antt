use Rattle.baseline_json.proofs.OneReport as law
use Rattle.baseline_json.proofs.one_answer.Goals as goal

pub returns : goal.returns
returns c = law.one_answer
