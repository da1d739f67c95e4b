use Rattle.std.proofs.Common.{◌≡◌, drop, map}
use Rattle.std.specs.List.{list_any}
use Rattle.cause_mentions.specs.CauseMentions.{mark_mentions}
use Rattle.cause_mentions.proofs.mentioned.marks_mention.Given as goal
use Rattle.mentions.specs.MarkViews.{mark_view}
use Rattle.names.specs.Answers.{declared_at}

-- whether one of those that are left does is whether one of all does
abbrev pub invariant-loop-mark : goal.invariant-loop-mark
invariant-loop-mark l =
    list_any (mark_mentions (declared_at l.names l.file)) (map mark_view (drop l.mark-index l.marks))
    ≡ list_any (mark_mentions (declared_at l.names l.file)) (map mark_view l.marks)
