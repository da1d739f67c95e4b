use Rattle.std.proofs.Common.{drop}
use Rattle.std.specs.Prelude.{nat_eq}
use Rattle.indexmap.specs.IndexSet.{contains}
use Rattle.flow.proofs.Falls.{SetSoFar}
use Rattle.flow.proofs.exits.set_of.Given as goal

-- what was added, with what is left, is the whole
abbrev pub invariant-loop-at : goal.invariant-loop-at
invariant-loop-at l = SetSoFar (drop l.at-index l.falls) l.falls (contains nat_eq l.set)
