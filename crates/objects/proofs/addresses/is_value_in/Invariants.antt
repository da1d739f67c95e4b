use Rattle.std.proofs.Common.{◌≡◌, [], drop}
use Rattle.std.specs.List.{list_any}
use Rattle.meaning.specs.Objects.{declares_value, is_value_in}
use Rattle.meaning.specs.Tracked.{placed}
use Rattle.mentions.specs.MarkViews.{marks_view}
use Rattle.tracked_rows.specs.RowViews.{known_view}
use Rattle.objects.proofs.addresses.is_value_in.Given as goal

-- what is told of those that are left is told of all
abbrev pub invariant-loop-mark : goal.invariant-loop-mark
invariant-loop-mark l =
    list_any (declares_value (known_view l.known) l.number) (marks_view (drop l.mark-index l.marks))
    ≡ is_value_in (known_view l.known) (placed [] (marks_view l.marks)) l.number
