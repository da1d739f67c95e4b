use Rattle.meaning_runs.proofs.GoneFunctions.{gone_functions_have_steps}
use Rattle.meaning_runs.proofs.gone_functions_have_steps.Goals as goal

pub returns : goal.returns
returns c = gone_functions_have_steps
