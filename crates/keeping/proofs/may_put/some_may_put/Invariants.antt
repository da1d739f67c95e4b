use Rattle.std.proofs.Common.{◌≡◌, drop}
use Rattle.std.specs.List.{list_any}
use Rattle.mentions.specs.MarkViews.{marks_view}
use Rattle.tracked_rows.specs.RowViews.{known_view}
use Rattle.keeping.specs.PlainFiles.{mark_may_put}
use Rattle.keeping.proofs.may_put.some_may_put.Given as goal

-- the test of those that are left is that of all
abbrev pub invariant-loop-mark : goal.invariant-loop-mark
invariant-loop-mark l =
    list_any (mark_may_put (known_view l.known) l.numbers) (marks_view (drop l.mark-index l.marks))
    ≡ list_any (mark_may_put (known_view l.known) l.numbers) (marks_view l.marks)
