use Rattle.std.proofs.Common.{◌≡◌, drop, map}
use Rattle.std.specs.Prelude.{◌==◌}
use Rattle.std.specs.List.{list_any}
use Rattle.mentions.specs.MarkViews.{body_view}
use Rattle.literal_mentions.proofs.mentioned.stands_in.Given as goal

-- what is told of those that are left is told of all
abbrev pub invariant-loop-body : goal.invariant-loop-body
invariant-loop-body l =
    list_any (λ b. b.at == l.literal) (map body_view (drop l.body-index l.bodies))
    ≡ list_any (λ b. b.at == l.literal) (map body_view l.bodies)
