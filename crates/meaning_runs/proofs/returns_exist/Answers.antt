use Rattle.meaning_runs.proofs.ExampleRuns.{returns_exist}
use Rattle.meaning_runs.proofs.returns_exist.Goals as goal

pub returns : goal.returns
returns c = returns_exist
