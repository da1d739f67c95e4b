use Rattle.meaning.proofs.Returns.{falling_off_returns}
use Rattle.meaning.proofs.falling_off_returns.Goals as goal

pub returns : goal.returns
returns g c = falling_off_returns _
