use Rattle.meaning_runs.proofs.CallSteps.{calls_have_steps}
use Rattle.meaning_runs.proofs.calls_have_steps.Goals as goal

pub returns : goal.returns
returns c = calls_have_steps
