use Rattle.std.proofs.Common.{◌≡◌, drop}
use Rattle.imports.specs.Settling.{left_of}
use Rattle.imports.proofs.ranking.left_of.Given as goal

abbrev pub invariant-loop-index : goal.invariant-loop-index
invariant-loop-index l = left_of l.ranks (drop l.index l.imports) ≡ left_of l.ranks l.imports
