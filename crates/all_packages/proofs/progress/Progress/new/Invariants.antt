use Rattle.std.proofs.Common.{◌≡◌, None, replicate}
use Rattle.all_packages.proofs.progress.Progress.new.Given as goal

abbrev pub invariant-loop : goal.invariant-loop
invariant-loop l = l.results.items ≡ replicate l.counter None
