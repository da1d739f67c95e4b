use Rattle.load.proofs.GivenLists.{GivesOn}
use Rattle.load.proofs.packages.by_path.Given as goal

-- the packages so far, with those that are left, are those that are given
abbrev pub invariant-loop-path : goal.invariant-loop-path
invariant-loop-path l = GivesOn l.fn.given.items l.packages.entries l.path-iterator.rest.items
