use Rattle.std.proofs.Common.{refl}
use Rattle.scopes.proofs.names.statement_block.Goals as goal

pub returns : goal.returns
returns c = refl
