use Rattle.std.proofs.Common.{◌≡◌, ◌++◌, drop, map}
use Rattle.std.specs.List.{filter}
use Rattle.meaning.specs.Scopes.{is_none_of}
use Rattle.scopes.specs.Views.{bare_view, namings_view}
use Rattle.scopes.proofs.receivers.add_others.Given as goal

-- what was added with what the rest adds is the whole
abbrev pub invariant-loop-naming : goal.invariant-loop-naming
invariant-loop-naming l =
    namings_view l.namings.items ++ filter (is_none_of (map bare_view l.named)) (namings_view (drop l.naming-index l.all))
    ≡ namings_view l.initial.namings.items ++ filter (is_none_of (map bare_view l.named)) (namings_view l.all)
