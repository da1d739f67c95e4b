use Rattle.std.proofs.Common.{◌≡◌, ◌++◌, drop, map}
use Rattle.tracked_rows.specs.EventViews.{event_view}
use Rattle.meaning.specs.Kept.{renew_all}
use Rattle.kept.specs.KeptViews.{keep_view}
use Rattle.kept_events.proofs.declared.renew_all.Given as goal

-- what was added, with what is left, is the whole
abbrev pub invariant-loop-keep : goal.invariant-loop-keep
invariant-loop-keep l =
    map event_view l.events.items ++ renew_all (map keep_view (drop l.keep-index l.keeps))
    ≡ map event_view l.initial.events.items ++ renew_all (map keep_view l.keeps)
