use Rattle.std.proofs.Common.{◌≡◌, [], drop}
use Rattle.std.specs.List.{list_any}
use Rattle.meaning.specs.Objects.{points_to}
use Rattle.meaning.specs.Tracked.{placed}
use Rattle.mentions.specs.MarkViews.{marks_view}
use Rattle.tracked_rows.specs.RowViews.{known_view}
use Rattle.objects.proofs.addresses.is_pointed_to.Given as goal

-- what is told of those that are left is told of all
abbrev pub invariant-loop-mark : goal.invariant-loop-mark
invariant-loop-mark l =
    list_any (points_to (known_view l.known) l.number) (marks_view (drop l.mark-index l.marks))
    ≡ list_any (λ p. points_to (known_view l.known) l.number p.mark) (placed [] (marks_view l.marks))
