use Rattle.std.proofs.Common.{◌≡◌, ◌++◌, drop, map}
use Rattle.meaning.specs.Scopes.{type_parameters_declared}
use Rattle.scopes.specs.Views.{bare_view, namings_view}
use Rattle.scopes.proofs.declared.declare_bare_names.Given as goal

-- what was added with what the other names add is the whole
abbrev pub invariant-loop-name : goal.invariant-loop-name
invariant-loop-name l =
    namings_view l.namings.items ++ type_parameters_declared l.block (map bare_view (drop l.name-index l.names))
    ≡ namings_view l.initial.namings.items ++ type_parameters_declared l.block (map bare_view l.names)
