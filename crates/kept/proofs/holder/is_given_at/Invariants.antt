use Rattle.std.proofs.Common.{◌≡◌, [], drop, map}
use Rattle.std.specs.List.{list_any}
use Rattle.mentions.specs.MarkViews.{body_view, marks_view}
use Rattle.meaning.specs.Tracked.{Placed, placed}
use Rattle.tracked.specs.LocalViews.{seen_view}
use Rattle.kept.specs.KeptViews.{gives_there}
use Rattle.kept.proofs.holder.is_given_at.Given as goal

-- what is told of the marks that are left is told of all
abbrev pub invariant-loop-mark : goal.invariant-loop-mark
invariant-loop-mark l =
    list_any (λ (p : Placed). gives_there (seen_view l.seen) l.address.object l.address.at p.bodies p.mark)
    (placed (map body_view l.bodies.items) (marks_view (drop l.mark-index l.mark-items)))
    ≡ list_any (λ (p : Placed). gives_there (seen_view l.seen) l.address.object l.address.at p.bodies p.mark)
    (placed [] (marks_view l.mark-items))
