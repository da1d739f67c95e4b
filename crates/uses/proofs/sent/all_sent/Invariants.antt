use Rattle.std.proofs.Common.{◌≡◌, ◌++◌, drop, map}
use Rattle.mentions.specs.MarkViews.{body_view, call_view}
use Rattle.tracked.specs.LocalViews.{seen_view}
use Rattle.tracked_rows.specs.EventViews.{sent_view}
use Rattle.tree.specs.View.{expressions_syntax}
use Rattle.meaning.specs.BodyEvents.{sent_from}
use Rattle.uses.proofs.sent.all_sent.Given as goal

-- what was added, with what the arguments that are left send, is the whole
abbrev pub invariant-loop-index : goal.invariant-loop-index
invariant-loop-index l =
    map sent_view l.sent.items
    ++ sent_from (seen_view l.there.seen.now) (map body_view l.there.bodies.now) (call_view l.there.call) l.index
    (expressions_syntax (drop l.index l.arguments))
    ≡ sent_from (seen_view l.there.seen.now) (map body_view l.there.bodies.now) (call_view l.there.call) 0
    (expressions_syntax l.arguments)
