use Rattle.std.proofs.Common.{◌≡◌, [], ◌++◌, drop, map}
use Rattle.mentions.specs.MarkViews.{body_view, marks_view}
use Rattle.meaning.specs.Tracked.{placed}
use Rattle.tracked_rows.specs.RowViews.{known_view}
use Rattle.literal_mentions.specs.LiteralViews.{mention_at_view}
use Rattle.literal_mentions.proofs.LiteralMentions.{mentioned_among}
use Rattle.literal_mentions.proofs.mentioned.mentioned_in.Given as goal

-- what was found, with what the marks that are left mention, is what all mention
abbrev pub invariant-loop-mark : goal.invariant-loop-mark
invariant-loop-mark l =
    map mention_at_view l.found.items
    ++ mentioned_among (known_view l.seen.known) l.literal
    (placed (map body_view l.bodies.items) (marks_view (drop l.mark-index l.mark-items)))
    ≡ mentioned_among (known_view l.seen.known) l.literal (placed [] (marks_view l.mark-items))
