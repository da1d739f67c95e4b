use Rattle.std.proofs.Common.{◌≡◌, ◌++◌, drop}
use Rattle.imports.specs.Views.{rows_view, slices_view}
use Rattle.imports.proofs.rows.slices.Given as goal

abbrev pub invariant-loop-row : goal.invariant-loop-row
invariant-loop-row l = slices_view l.slices.items ++ rows_view (drop l.row-index l.rows) ≡ rows_view l.rows
