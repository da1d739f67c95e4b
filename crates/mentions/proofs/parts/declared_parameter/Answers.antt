use Rattle.tree.proofs.Views.{parameter_and-Named, parameter_and-Unnamed, parameter_and-NameAlone}
use Rattle.mentions.proofs.Adding.{adds_nothing}
use Rattle.mentions.proofs.parts.declared_parameter.Goals as goal

pub returns-in-Named : goal.returns-in-Named
returns-in-Named c = rw (c.in-Named.is, parameter_and-Named) c.declare_elsewhere.ensures

pub returns-in-Unnamed : goal.returns-in-Unnamed
returns-in-Unnamed c = rw (c.in-Unnamed.is, parameter_and-Unnamed) (adds_nothing _)

pub returns-in-NameAlone : goal.returns-in-NameAlone
returns-in-NameAlone c = rw (c.in-NameAlone.is, parameter_and-NameAlone) c.declare_elsewhere-in-NameAlone.ensures
