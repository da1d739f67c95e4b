use Rattle.std.proofs.Common.{None, ap, sym}
use Rattle.meaning.specs.Code.{breaking, leave, either}
use Rattle.code.specs.CodeViews.{turn_or_end}
use Rattle.code.proofs.Codes.{code_view-Leave, same_code}
use Rattle.code.proofs.parts.turn_or_end.Goals as goal

pub returns-then-may_end : goal.returns-then-may_end
returns-then-may_end g c = λ a turn.
    same_code c.either.result (either (leave (breaking None)) a) (turn_or_end c.args.may_end a)
    (ap (λ b. turn_or_end b a) (sym c.if-may_end.true))
    (c.either.ensures (leave (breaking None)) a (code_view-Leave _) turn)
