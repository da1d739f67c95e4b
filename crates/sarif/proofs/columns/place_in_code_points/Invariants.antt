use Rattle.std.proofs.Common.{◌≡◌}
use Rattle.lexer.specs.Place.{line_of}
use Rattle.sarif.specs.CodePoints.{code_point_column}
use Rattle.sarif.proofs.columns.place_in_code_points.Given as goal

abbrev pub invariant-loop-at : goal.invariant-loop-at
invariant-loop-at l = (l.line ≡ line_of l.bytes l.at) × (l.column ≡ code_point_column l.bytes l.at)
