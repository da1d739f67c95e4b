use Rattle.std.proofs.Common.{map, drop}
use Rattle.meaning.specs.Tracked.{result_locals}
use Rattle.facts.specs.FactViews.{item_view}
use Rattle.mentions.specs.MarkViews.{body_view}
use Rattle.tracked_rows.specs.RowViews.{known_view}
use Rattle.tracked.specs.declared.table.Locals.{Locals}
use Rattle.tracked.specs.LocalViews.{AddsLocals}
use Rattle.tracked.proofs.declared.add_results.Given as goal

-- what adds the rest completes the work
abbrev pub invariant-loop-item : goal.invariant-loop-item
invariant-loop-item l =
    (end : Locals)
    → AddsLocals l.locals end
    (result_locals (known_view l.known) (body_view l.body) (map item_view (drop l.item-index l.items)))
    → AddsLocals l.initial.locals end
    (result_locals (known_view l.known) (body_view l.body) (map item_view l.items))
