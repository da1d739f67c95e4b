use Rattle.std.proofs.Common.{[], ◌∷◌, ap}
use Rattle.tree.proofs.Views.{parameter_and-Named, parameter_and-Unnamed, parameter_and-NameAlone}
use Rattle.meaning.specs.Scopes.{type_parameters_declared}
use Rattle.scopes.proofs.Adding.{same_adds, adds_nothing}
use Rattle.scopes.proofs.declared.declare_named.Goals as goal

pub returns-in-Named : goal.returns-in-Named
returns-in-Named c =
    rw (c.in-Named.is, parameter_and-Named)
    (same_adds _ _ _ _ _ (ap (λ n. type_parameters_declared c.args.block (n ∷ [])) c.bare.ensures) c.declare_type_parameter.ensures)

pub returns-in-Unnamed : goal.returns-in-Unnamed
returns-in-Unnamed c = rw (c.in-Unnamed.is, parameter_and-Unnamed) (adds_nothing _)

pub returns-in-NameAlone : goal.returns-in-NameAlone
returns-in-NameAlone c =
    rw (c.in-NameAlone.is, parameter_and-NameAlone)
    (same_adds _ _ _ _ _ (ap (λ n. type_parameters_declared c.args.block (n ∷ [])) c.bare-in-NameAlone.ensures)
    c.declare_type_parameter-in-NameAlone.ensures)
