use Rattle.std.proofs.Common.{◌≡◌, ◌++◌, drop, map}
use Rattle.meaning.specs.Scopes.{declared_names}
use Rattle.scopes.specs.Views.{namings_view}
use Rattle.tree.specs.View.{identifier_syntax}
use Rattle.scopes.proofs.declared.declare_names.Given as goal

-- what was added with what the other names add is the whole
abbrev pub invariant-loop-name : goal.invariant-loop-name
invariant-loop-name l =
    namings_view l.namings.items ++ declared_names l.kind l.scope.block l.scope.from l.is_short (map identifier_syntax (drop l.name-index l.names))
    ≡ namings_view l.initial.namings.items ++ declared_names l.kind l.scope.block l.scope.from l.is_short (map identifier_syntax l.names)
