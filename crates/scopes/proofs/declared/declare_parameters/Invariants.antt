use Rattle.std.proofs.Common.{◌≡◌, ◌++◌, drop}
use Rattle.meaning.specs.Scopes.{parameters_declared}
use Rattle.scopes.specs.Views.{namings_view}
use Rattle.tree.specs.View.{parameters_syntax}
use Rattle.scopes.proofs.declared.declare_parameters.Given as goal

-- what was added with what the other parameters add is the whole
abbrev pub invariant-loop-param : goal.invariant-loop-param
invariant-loop-param l =
    namings_view l.namings.items ++ parameters_declared l.block (parameters_syntax (drop l.param-index l.params))
    ≡ namings_view l.initial.namings.items ++ parameters_declared l.block (parameters_syntax l.params)
