use Rattle.std.proofs.Common.{◌≡◌, ◌++◌, drop, map}
use Rattle.meaning.specs.Scopes.{bare_names}
use Rattle.scopes.specs.Views.{bare_view}
use Rattle.tree.specs.View.{expressions_syntax}
use Rattle.scopes.proofs.receivers.add_arguments.Given as goal

-- what was added with what the rest adds is the whole
abbrev pub invariant-loop-argument : goal.invariant-loop-argument
invariant-loop-argument l =
    map bare_view l.names.items ++ bare_names (expressions_syntax (drop l.argument-index l.arguments))
    ≡ map bare_view l.initial.names.items ++ bare_names (expressions_syntax l.arguments)
