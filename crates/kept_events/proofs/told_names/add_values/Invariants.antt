use Rattle.std.proofs.Common.{◌≡◌, ℕ, List, ◌++◌, drop, map, Bor}
use Rattle.mentions.specs.MarkViews.{body_view}
use Rattle.tracked.specs.LocalViews.{seen_view}
use Rattle.tree.specs.View.{expression_syntax}
use Rattle.kept_events.specs.KeptEventViews.{value_names}
use Rattle.kept_events.proofs.told_names.add_values.Given as goal

-- what was added, with what is left, is the whole
abbrev pub invariant-loop-value : goal.invariant-loop-value
invariant-loop-value l =
    map (λ (n : Bor (List ℕ)). n.now) l.names.items
    ++ value_names (seen_view l.here.around.seen.now) (map body_view l.here.around.bodies.now)
    (map expression_syntax (drop l.value-index l.values))
    ≡ map (λ (n : Bor (List ℕ)). n.now) l.initial.names.items
    ++ value_names (seen_view l.here.around.seen.now) (map body_view l.here.around.bodies.now) (map expression_syntax l.values)
