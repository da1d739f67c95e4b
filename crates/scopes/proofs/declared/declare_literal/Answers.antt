use Rattle.scopes.proofs.declared.declare_literal.Goals as goal

pub returns : goal.returns
returns c = c.declare_signature.ensures
