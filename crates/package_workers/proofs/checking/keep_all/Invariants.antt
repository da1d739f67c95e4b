use Rattle.std.proofs.Common.{◌≡◌, length}
use Rattle.all_packages.specs.Progress.{slots_in}
use Rattle.package_workers.specs.Slots.{MayBeKept}
use Rattle.package_workers.proofs.checking.keep_all.Given as goal

abbrev pub invariant-loop-outcome : goal.invariant-loop-outcome
invariant-loop-outcome g l =
    (length (slots_in l.progress) ≡ length (slots_in l.initial.progress))
    × MayBeKept g.B.Naming.told (slots_in l.progress)
