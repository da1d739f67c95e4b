use Rattle.std.proofs.Common.{arith}
use Rattle.tracked_rows.proofs.OnlyValues.{other-only}
use Rattle.tracked_rows.proofs.calls.only.Goals as goal

pub returns-else-values-eq1 : goal.returns-else-values-eq1
returns-else-values-eq1 c = other-only c.args.values.now (λ one. omega (arith, one, c.if-values-eq1.false))
