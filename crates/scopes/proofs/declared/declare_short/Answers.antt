use Rattle.scopes.proofs.declared.declare_short.Goals as goal

pub returns : goal.returns
returns c = c.declare_names.ensures
