use Rattle.std.proofs.Common.{◌≡◌, drop, map}
use Rattle.std.specs.Prelude.{◌==◌}
use Rattle.std.specs.List.{list_any}
use Rattle.scopes.specs.Views.{bare_view}
use Rattle.scopes.proofs.receivers.stands_at.Given as goal

-- the test of those that are left is that of all
abbrev pub invariant-loop-name : goal.invariant-loop-name
invariant-loop-name l =
    list_any (λ n. n.span.start == l.at) (map bare_view (drop l.name-index l.named))
    ≡ list_any (λ n. n.span.start == l.at) (map bare_view l.named)
