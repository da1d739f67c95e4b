use Rattle.std.proofs.Common.{◌≡◌, ◌++◌, drop, map}
use Rattle.mentions.specs.MarkViews.{body_view}
use Rattle.tracked.specs.LocalViews.{seen_view}
use Rattle.tracked_rows.specs.EventViews.{handed_view}
use Rattle.tree.specs.View.{expressions_syntax}
use Rattle.meaning.specs.BodyEvents.{handed_on}
use Rattle.kept_events.proofs.events.handed_on.Given as goal

-- what was added, with what the items that are left hand on, is the whole
abbrev pub invariant-loop-position : goal.invariant-loop-position
invariant-loop-position l =
    map handed_view l.handed.items
    ++ handed_on (seen_view l.file.seen.now) (map body_view l.bodies) l.position (expressions_syntax (drop l.position l.values))
    ≡ handed_on (seen_view l.file.seen.now) (map body_view l.bodies) 0 (expressions_syntax l.values)
