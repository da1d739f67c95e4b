use Rattle.std.proofs.Common.{◌≡◌, ◌++◌, drop, map}
use Rattle.meaning.specs.Scopes.{named_in_types}
use Rattle.scopes.specs.Views.{bare_view}
use Rattle.tree.specs.View.{parameters_syntax}
use Rattle.scopes.proofs.receivers.named_in_types.Given as goal

-- what was added with what the other parameters add is the whole
abbrev pub invariant-loop-param : goal.invariant-loop-param
invariant-loop-param l =
    map bare_view l.names.items ++ named_in_types (parameters_syntax (drop l.param-index l.params))
    ≡ named_in_types (parameters_syntax l.params)
