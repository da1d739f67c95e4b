use Rattle.std.proofs.Common.{◌≡◌, ◌++◌, drop, map, flat_map}
use Rattle.mentions.specs.MarkViews.{call_view}
use Rattle.tracked.specs.LocalViews.{seen_view}
use Rattle.tracked_rows.specs.EventViews.{event_view}
use Rattle.meaning.specs.Kept.{field_call}
use Rattle.kept.specs.KeptViews.{keep_view}
use Rattle.kept_events.proofs.called.add_field_calls.Given as goal

-- what was added, with what is left, is the whole
abbrev pub invariant-loop-keep : goal.invariant-loop-keep
invariant-loop-keep l =
    map event_view l.events.items
    ++ flat_map (field_call (seen_view l.seen) l.field (call_view l.call)) (map keep_view (drop l.keep-index l.keeps))
    ≡ map event_view l.initial.events.items
    ++ flat_map (field_call (seen_view l.seen) l.field (call_view l.call)) (map keep_view l.keeps)
