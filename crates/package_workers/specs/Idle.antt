-- Why a worker has nothing to judge.
use Rattle.package_workers.specs.declared.working.Idle.{Idle}
use Rattle.package_workers.specs.declared.working.Idle.TheVariants.{Waits, GaveBack, Ends}

-- where a worker ends, this is so
abbrev pub OnOver : Type 0 → Idle → Type 0
OnOver P Waits = Unit {0}
OnOver P GaveBack = Unit {0}
OnOver P Ends = P
