use Rattle.std.proofs.Common.{refl}
use Rattle.tree.proofs.Views.{parameter_and-Named, parameter_and-Unnamed, parameter_and-NameAlone}
use Rattle.scopes.proofs.ReceiverNames.{bare_alone, bare_same}
use Rattle.scopes.proofs.receivers.add_parameter.Goals as goal

pub returns-in-Named : goal.returns-in-Named
returns-in-Named c = rw (c.in-Named.is, parameter_and-Named) (bare_alone _ _ _ _ c.add_type.ensures)

pub returns-in-Unnamed : goal.returns-in-Unnamed
returns-in-Unnamed c = rw (c.in-Unnamed.is, parameter_and-Unnamed) (bare_alone _ _ _ _ c.add_type-in-Unnamed.ensures)

pub returns-in-NameAlone : goal.returns-in-NameAlone
returns-in-NameAlone c = rw (c.in-NameAlone.is, parameter_and-NameAlone) (bare_same _ _ refl)
