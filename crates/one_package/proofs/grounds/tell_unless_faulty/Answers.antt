use Rattle.std.proofs.Common.{true, subst}
use Rattle.one_package.specs.ToldPackages.{AreGrounds, AreMarkedGrounds}
use Rattle.one_package.proofs.grounds.tell_unless_faulty.Goals as goal

pub returns-in-WholeFaults-clause-told : goal.returns-in-WholeFaults-clause-told
returns-in-WholeFaults-clause-told c = λ ps tables i p is_p tells around.
    let are = subst (AreGrounds ps tables i p true) c.in-WholeFaults.is (c.in_ok-_faults.ensures.grounds ps tables i p is_p tells around) in
    are.one

pub returns-in-Told-clause-told : goal.returns-in-Told-clause-told
returns-in-Told-clause-told c = λ ps tables i p is_p tells around.
    subst (AreGrounds ps tables i p true) c.in-Told.is (c.in_ok-_faults.ensures.grounds ps tables i p is_p tells around)

pub returns-in-Told-clause-marked : goal.returns-in-Told-clause-marked
returns-in-Told-clause-marked c = subst AreMarkedGrounds c.in-Told.is c.in_ok-_faults.ensures.marked
