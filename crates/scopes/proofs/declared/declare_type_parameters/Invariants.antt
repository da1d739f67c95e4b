use Rattle.std.proofs.Common.{◌≡◌, ◌++◌, drop}
use Rattle.meaning.specs.Scopes.{type_parameters_declared, parameters_named}
use Rattle.scopes.specs.Views.{namings_view}
use Rattle.tree.specs.View.{parameters_syntax}
use Rattle.scopes.proofs.declared.declare_type_parameters.Given as goal

-- what was added with what the other parameters add is the whole
abbrev pub invariant-loop-param : goal.invariant-loop-param
invariant-loop-param l =
    namings_view l.namings.items ++ type_parameters_declared l.block (parameters_named (parameters_syntax (drop l.param-index l.params)))
    ≡ namings_view l.initial.namings.items ++ type_parameters_declared l.block (parameters_named (parameters_syntax l.params))
