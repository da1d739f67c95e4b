use Rattle.std.proofs.Common.{map, drop}
use Rattle.meaning.specs.Tracked.{parameter_locals}
use Rattle.facts.specs.FactViews.{item_view}
use Rattle.mentions.specs.MarkViews.{body_view}
use Rattle.tracked_rows.specs.RowViews.{known_view}
use Rattle.tracked.specs.declared.table.Locals.{Locals}
use Rattle.tracked.specs.LocalViews.{AddsLocals}
use Rattle.tracked.proofs.declared.add_parameters.Given as goal

-- what adds the rest completes the work
abbrev pub invariant-loop-position : goal.invariant-loop-position
invariant-loop-position l =
    (end : Locals)
    → AddsLocals l.locals end
    (parameter_locals (known_view l.known) (body_view l.body) l.position (map item_view (drop l.position l.items)))
    → AddsLocals l.initial.locals end
    (parameter_locals (known_view l.known) (body_view l.body) 0 (map item_view l.items))
