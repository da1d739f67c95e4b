use Rattle.std.proofs.Common.{◌≡◌, length, map}
use Rattle.lexer.specs.Dispatch.{kind_in}
use Rattle.lexer.proofs.keywords.kind_in.Given as goal

abbrev pub invariant-loop-rows : goal.invariant-loop-rows
invariant-loop-rows l = kind_in (map (λ row. (row.0.now, row.1)) l.rows) l.word ≡ kind_in (map (λ row. (row.0.now, row.1)) l.initial.rows) l.word

abbrev pub decreases-loop-rows : goal.decreases-loop-rows
decreases-loop-rows l = length l.rows
