use Rattle.std.proofs.Common.{◌≡◌, ◌++◌, drop}
use Rattle.mentions.specs.MarkViews.{marks_view}
use Rattle.tracked_rows.specs.RowViews.{known_view}
use Rattle.keeping.specs.PlainFiles.{cancels}
use Rattle.keeping.proofs.cancels.cancels.Given as goal

-- what was added, with what is left, is the whole
abbrev pub invariant-loop-mark : goal.invariant-loop-mark
invariant-loop-mark l =
    l.numbers.items ++ cancels (known_view l.known) (marks_view (drop l.mark-index l.marks))
    ≡ cancels (known_view l.known) (marks_view l.marks)
