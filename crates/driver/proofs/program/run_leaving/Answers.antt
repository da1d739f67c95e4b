use Rattle.std.proofs.Common.{inr, refl}
use Rattle.printed.specs.declared.status.Status.TheVariants.{Faulty}
use Rattle.driver.proofs.program.run_leaving.Goals as goal

pub returns-in-Err : goal.returns-in-Err
returns-in-Err g c =
    (Faulty, c.fail.ensures, inr (record { is_status = refl; fault = c.in-Err.fault; fails = c.in-Err.ensures.fails }))
