use Rattle.std.proofs.Common.{◌≡◌, drop, map}
use Rattle.std.specs.List.{list_any}
use Rattle.meaning.specs.Uses.{may_be_a_local}
use Rattle.tree.specs.View.{expression_syntax}
use Rattle.uses.proofs.losses.some_may_be_a_local.Given as goal

-- the test of the left sides that are left is that of all
abbrev pub invariant-loop-left : goal.invariant-loop-left
invariant-loop-left l =
    list_any may_be_a_local (map expression_syntax (drop l.left-index l.lefts))
    ≡ list_any may_be_a_local (map expression_syntax l.lefts)
