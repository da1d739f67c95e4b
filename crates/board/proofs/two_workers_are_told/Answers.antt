use Rattle.board.proofs.Told.{are_told}
use Rattle.board.proofs.two_workers_are_told.Goals as goal

pub returns : goal.returns
returns c = are_told
