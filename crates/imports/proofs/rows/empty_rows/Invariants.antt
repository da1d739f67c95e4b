use Rattle.std.proofs.Common.{◌≡◌, [], replicate}
use Rattle.imports.specs.Views.{rows_view}
use Rattle.imports.proofs.rows.empty_rows.Given as goal

abbrev pub invariant-loop : goal.invariant-loop
invariant-loop l = rows_view l.rows.items ≡ replicate l.counter []
