use Rattle.silent_files.proofs.DeclaredGivers.{givers_count}
use Rattle.silent_files.proofs.declared_givers_count.Goals as goal

pub returns : goal.returns
returns c = givers_count
