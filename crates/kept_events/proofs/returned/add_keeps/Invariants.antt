use Rattle.std.proofs.Common.{◌≡◌, ◌++◌, drop, map}
use Rattle.tracked_rows.specs.EventViews.{handed_view}
use Rattle.kept.specs.KeptViews.{keep_view}
use Rattle.kept_events.specs.KeptEventViews.{handed_keeps}
use Rattle.kept_events.proofs.returned.add_keeps.Given as goal

-- what was added, with what is left, is the whole
abbrev pub invariant-loop-keep : goal.invariant-loop-keep
invariant-loop-keep l =
    map handed_view l.handed.items ++ handed_keeps l.position (map keep_view (drop l.keep-index l.keeps))
    ≡ map handed_view l.initial.handed.items ++ handed_keeps l.position (map keep_view l.keeps)
