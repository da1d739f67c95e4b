use Rattle.std.proofs.Common.{◌≤◌, length}
use Rattle.suggested_fixes.proofs.lines.blanks_from.Given as goal

abbrev pub invariant-bytes : goal.invariant-bytes
invariant-bytes l = l.end ≤ length l.bytes

abbrev pub decreases-bytes : goal.decreases-bytes
decreases-bytes l = l.end
