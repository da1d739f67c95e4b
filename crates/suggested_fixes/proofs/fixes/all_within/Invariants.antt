use Rattle.std.proofs.Common.{◌≡◌, true}
use Rattle.suggested_fixes.specs.Edits.{lie_within}
use Rattle.suggested_fixes.proofs.fixes.all_within.Given as goal

abbrev pub invariant-loop-fix : goal.invariant-loop-fix
invariant-loop-fix l = lie_within l.size l.fixes.items ≡ true
