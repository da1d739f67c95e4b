use Rattle.keeping.proofs.PuttingFiles.{skipped_put_nothing}
use Rattle.keeping.proofs.putting.skipped_put_nothing.Goals as goal

pub returns : goal.returns
returns c = skipped_put_nothing
