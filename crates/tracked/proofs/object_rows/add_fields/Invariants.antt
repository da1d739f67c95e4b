use Rattle.std.proofs.Common.{map, drop}
use Rattle.meaning.specs.Objects.{field_locals}
use Rattle.tracked.specs.declared.table.Locals.{Locals}
use Rattle.tracked.specs.LocalViews.{object_row_view, AddsLocals}
use Rattle.tracked.proofs.object_rows.add_fields.Given as goal

-- what adds the rest completes the work
abbrev pub invariant-loop-row : goal.invariant-loop-row
invariant-loop-row l =
    (end : Locals)
    → AddsLocals l.locals end
    (field_locals (map object_row_view l.rows) (map object_row_view (drop l.row-index l.rows)))
    → AddsLocals l.initial.locals end (field_locals (map object_row_view l.rows) (map object_row_view l.rows))
