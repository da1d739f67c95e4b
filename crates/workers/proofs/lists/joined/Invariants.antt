use Rattle.std.proofs.Common.{◌≡◌, ◌++◌}
use Rattle.workers.specs.Pieces.{joined}
use Rattle.workers.proofs.lists.joined.Given as goal

-- what was moved, and then what is left, is all
abbrev pub invariant-loop-list : goal.invariant-loop-list
invariant-loop-list g l = l.all.items ++ joined l.list-iterator.rest.items ≡ joined l.fn.lists.items
