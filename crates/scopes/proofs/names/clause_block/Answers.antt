use Rattle.std.proofs.Common.{refl}
use Rattle.scopes.proofs.names.clause_block.Goals as goal

pub returns : goal.returns
returns c = refl
