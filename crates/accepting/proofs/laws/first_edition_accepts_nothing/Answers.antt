use Rattle.accepting.proofs.NothingLost.{first_is_plain}
use Rattle.accepting.proofs.laws.first_edition_accepts_nothing.Goals as goal

pub returns : goal.returns
returns c = first_is_plain
