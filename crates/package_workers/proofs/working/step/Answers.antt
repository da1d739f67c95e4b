use Rattle.std.proofs.Common.{sym, subst}
use Rattle.board.specs.Answers.{state_in, IsOver}
use Rattle.package_workers.proofs.working.step.Goals as goal

pub returns-in-Over-clause-over : goal.returns-in-Over-clause-over
returns-in-Over-clause-over g c =
    subst (λ board. IsOver g.B.Naming.rank (state_in g.B.Naming.packages board)) (sym c.in-Over.ensures.then)
    c.in-Over.ensures.task
