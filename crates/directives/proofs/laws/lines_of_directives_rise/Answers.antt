use Rattle.directives.proofs.Standing.{lines_rise}
use Rattle.directives.proofs.laws.lines_of_directives_rise.Goals as goal

pub returns : goal.returns
returns c = lines_rise
