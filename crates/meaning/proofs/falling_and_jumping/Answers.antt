use Rattle.meaning.proofs.StatementExamples.{falling_and_jumping}
use Rattle.meaning.proofs.falling_and_jumping.Goals as goal

pub returns : goal.returns
returns c = falling_and_jumping
