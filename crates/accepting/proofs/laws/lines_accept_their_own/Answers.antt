use Rattle.accepting.proofs.OwnLines.{own_lines}
use Rattle.accepting.proofs.laws.lines_accept_their_own.Goals as goal

pub returns : goal.returns
returns c = own_lines
