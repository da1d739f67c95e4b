use Rattle.std.proofs.Common.{◌≡◌, length}
use Rattle.parser_base.specs.Places.{cursor}
use Rattle.tree_reader.specs.Reading.{skip_semicolons}
use Rattle.parser_base.proofs.cursor.SourceTokens.skip_semicolons.Given as goal

abbrev pub invariant-loop-self : goal.invariant-loop-self
invariant-loop-self l = skip_semicolons (cursor l.self l.after) ≡ skip_semicolons (cursor l.fn.self l.initial.after)

abbrev pub decreases-loop-self : goal.decreases-loop-self
decreases-loop-self l = length (cursor l.self l.after).left
