use Rattle.std.proofs.Common.{◌≡◌, drop}
use Rattle.suggested_fixes.specs.Edits.{are_within}
use Rattle.suggested_fixes.proofs.edits.are_within.Given as goal

-- that those which are left lie within the text is that all do
abbrev pub invariant-loop-edit : goal.invariant-loop-edit
invariant-loop-edit l = are_within l.size (drop l.edit-index l.edits) ≡ are_within l.size l.edits
