use Rattle.board.proofs.Stopped.{are_stopped}
use Rattle.board.proofs.three_workers_are_stopped.Goals as goal

pub returns : goal.returns
returns c = are_stopped
