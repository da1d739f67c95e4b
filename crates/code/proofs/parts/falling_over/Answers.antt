use Rattle.std.proofs.Common.{None}
use Rattle.meaning.specs.Code.{breaking, leave}
use Rattle.code.proofs.Codes.{code_view-Leave}
use Rattle.code.proofs.parts.falling_over.Goals as goal

pub returns : goal.returns
returns g c = λ h d header clauses.
    c.breaks_end.ensures _ (c.repeats.ensures _ (c.up_to_falls-round.ensures _
    (c.then.ensures h _ header (c.then-end.ensures d (leave (breaking None)) clauses (code_view-Leave _)))))
