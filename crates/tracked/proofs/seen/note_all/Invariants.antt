use Rattle.std.proofs.Common.{◌≡◌, ℕ, [], option_map, map, drop}
use Rattle.meaning.specs.Tracked.{placed}
use Rattle.mentions.specs.MarkViews.{body_view, marks_view}
use Rattle.tracked_rows.specs.RowViews.{known_view}
use Rattle.tracked.specs.LocalViews.{entry_in, noted_all}
use Rattle.tracked.proofs.seen.note_all.Given as goal

abbrev pub invariant-loop-mark : goal.invariant-loop-mark
invariant-loop-mark l =
    (n : ℕ)
    → option_map
    (noted_all (known_view l.known) n (placed (map body_view l.bodies.items) (marks_view (drop l.mark-index l.marks))))
    (entry_in l.entries n)
    ≡ option_map (noted_all (known_view l.known) n (placed [] (marks_view l.marks))) (entry_in l.initial.entries n)
