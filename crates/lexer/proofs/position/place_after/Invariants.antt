use Rattle.std.proofs.Common.{◌≡◌}
use Rattle.lexer.specs.Place.{line_of, column_of}
use Rattle.lexer.proofs.position.place_after.Given as goal

abbrev pub invariant-loop-at : goal.invariant-loop-at
invariant-loop-at l = (l.line ≡ line_of l.bytes l.at) × (l.column ≡ column_of l.bytes l.at)
