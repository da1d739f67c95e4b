use Rattle.std.proofs.Common.{◌≡◌, ◌++◌, [], false, drop, map, option_map}
use Rattle.meaning.specs.Mentions.{file_marks, marks_by}
use Rattle.meaning.specs.Tracked.{placed}
use Rattle.tracked_rows.specs.RowViews.{known_view}
use Rattle.tree.specs.View.{file_syntax}
use Rattle.tree.specs.declared.edition.Edition.TheVariants.{Second}
use Rattle.use_reasons.specs.ReasonViews.{of_view, reason_view}
use Rattle.use_reasons.specs.UseReasons.{use_reason}
use Rattle.use_reasons.proofs.uses.use_reasons.Given as goal

-- what was found, with what is left, is the whole
abbrev pub invariant-loop-one : goal.invariant-loop-one
invariant-loop-one l =
    let marks = placed [] (marks_by Second false (file_marks (file_syntax l.file))) in
    map (option_map reason_view) l.reasons.items
    ++ map (λ u. use_reason (known_view l.known) marks u.at (of_view u.of)) (drop l.one-index l.asked)
    ≡ map (λ u. use_reason (known_view l.known) marks u.at (of_view u.of)) l.asked
