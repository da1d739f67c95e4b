use Rattle.std.proofs.Common.{◌≡◌, drop}
use Rattle.explanations.specs.KeptUses.{any_of_use}
use Rattle.explanations.proofs.asked.any_asked.Given as goal

-- the test of those that are left is that of all
abbrev pub invariant-loop-diagnostic : goal.invariant-loop-diagnostic
invariant-loop-diagnostic l = any_of_use (drop l.diagnostic-index l.diagnostics) ≡ any_of_use l.diagnostics
