use Rattle.meaning_runs.proofs.EachStep.{frames_have_steps}
use Rattle.meaning_runs.proofs.frames_have_steps.Goals as goal

pub returns : goal.returns
returns c = frames_have_steps
