use Rattle.std.proofs.Common.{◌≡◌, drop}
use Rattle.explanations.specs.Found.{any_of_path}
use Rattle.explanations.proofs.way_of.any_of_path.Given as goal

-- the test of those that are left is that of all
abbrev pub invariant-loop-diagnostic : goal.invariant-loop-diagnostic
invariant-loop-diagnostic l = any_of_path (drop l.diagnostic-index l.diagnostics) ≡ any_of_path l.diagnostics
