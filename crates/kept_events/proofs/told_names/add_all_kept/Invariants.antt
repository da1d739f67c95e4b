use Rattle.std.proofs.Common.{◌≡◌, ℕ, List, ◌++◌, drop, map, Bor}
use Rattle.tracked.specs.LocalViews.{seen_view}
use Rattle.kept.specs.KeptViews.{keep_view}
use Rattle.kept_events.specs.KeptEventViews.{kept_names}
use Rattle.kept_events.proofs.told_names.add_all_kept.Given as goal

-- what was added, with what is left, is the whole
abbrev pub invariant-loop-keep : goal.invariant-loop-keep
invariant-loop-keep l =
    map (λ (n : Bor (List ℕ)). n.now) l.names.items
    ++ kept_names (seen_view l.here.around.seen.now) (map keep_view (drop l.keep-index l.keeps))
    ≡ map (λ (n : Bor (List ℕ)). n.now) l.initial.names.items
    ++ kept_names (seen_view l.here.around.seen.now) (map keep_view l.keeps)
