use Rattle.directives.proofs.Standing.{stand_in}
use Rattle.directives.proofs.laws.directives_stand_in_their_text.Goals as goal

pub returns : goal.returns
returns c = stand_in
