use Rattle.std.proofs.Common.{◌≡◌, ◌++◌, drop, map}
use Rattle.mentions.specs.MarkViews.{body_view}
use Rattle.tracked.specs.LocalViews.{seen_view}
use Rattle.tracked_rows.specs.EventViews.{event_view}
use Rattle.kept.specs.KeptViews.{keep_view}
use Rattle.kept_events.specs.KeptEventViews.{kept_events}
use Rattle.kept_events.proofs.declared.add_all_kept.Given as goal

-- what was added, with what is left, is the whole
abbrev pub invariant-loop-keep : goal.invariant-loop-keep
invariant-loop-keep l =
    map event_view l.events.items
    ++ kept_events (seen_view l.here.around.seen.now) (map body_view l.here.around.bodies.now)
    (map keep_view (drop l.keep-index l.keeps))
    ≡ map event_view l.initial.events.items
    ++ kept_events (seen_view l.here.around.seen.now) (map body_view l.here.around.bodies.now) (map keep_view l.keeps)
