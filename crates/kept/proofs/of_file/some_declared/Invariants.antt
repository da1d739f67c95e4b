use Rattle.std.proofs.Common.{◌≡◌, drop, map}
use Rattle.std.specs.List.{list_any}
use Rattle.mentions.specs.MarkViews.{body_view}
use Rattle.tracked.specs.LocalViews.{seen_view}
use Rattle.kept.specs.KeptViews.{is_declared_in, keep_view}
use Rattle.kept.proofs.of_file.some_declared.Given as goal

-- what is told of those that are left is told of all
abbrev pub invariant-loop-row : goal.invariant-loop-row
invariant-loop-row l =
    list_any (λ k. is_declared_in (seen_view l.seen) (map body_view l.bodies) k.object) (map keep_view (drop l.row-index l.rows))
    ≡ list_any (λ k. is_declared_in (seen_view l.seen) (map body_view l.bodies) k.object) (map keep_view l.rows)
