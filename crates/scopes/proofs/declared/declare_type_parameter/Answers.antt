use Rattle.scopes.proofs.Adding.{alone_adds}
use Rattle.scopes.proofs.declared.declare_type_parameter.Goals as goal

pub returns : goal.returns
returns c = alone_adds _ _ _ _ c.declare.ensures
