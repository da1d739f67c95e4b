use Rattle.std.proofs.Common.{◌≡◌, drop}
use Rattle.reasons.specs.Branches.{are_silent}
use Rattle.tree.specs.View.{statements_syntax}
use Rattle.reasons.proofs.silent.+silent.Given as goal

-- the test of those that are left is that of all
abbrev pub invariant-are_silent-loop-item : goal.invariant-are_silent-loop-item
invariant-are_silent-loop-item l =
    are_silent (statements_syntax (drop l.item-index l.list)) ≡ are_silent (statements_syntax l.list)
