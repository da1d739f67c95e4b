use Rattle.std.proofs.Common.{◌≡◌, drop}
use Rattle.std.specs.List.{list_any}
use Rattle.mentions.specs.MarkViews.{marks_view}
use Rattle.meaning.specs.Kept.{is_of_import}
use Rattle.kept.proofs.own.some_import.Given as goal

-- what is told of those that are left is told of all
abbrev pub invariant-loop-mark : goal.invariant-loop-mark
invariant-loop-mark l =
    list_any is_of_import (marks_view (drop l.mark-index l.marks)) ≡ list_any is_of_import (marks_view l.marks)
