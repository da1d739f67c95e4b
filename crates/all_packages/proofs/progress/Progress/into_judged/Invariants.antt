use Rattle.std.proofs.Common.{◌≡◌, ◌++◌}
use Rattle.all_packages.specs.Progress.{slots_in, judged_of}
use Rattle.all_packages.proofs.progress.Progress.into_judged.Given as goal

-- what was taken, with what is left, is the whole
abbrev pub invariant-loop-slot : goal.invariant-loop-slot
invariant-loop-slot l = l.found.items ++ judged_of l.slot-iterator.rest.items ≡ judged_of (slots_in l.fn.self)
