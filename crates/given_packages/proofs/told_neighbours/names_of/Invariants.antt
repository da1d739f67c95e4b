use Rattle.std.proofs.Common.{◌≡◌, ℕ, List, drop}
use Rattle.meaning.specs.OuterBlocks.{or_else}
use Rattle.names.specs.Answers.{names_by_path}
use Rattle.given_packages.specs.ToldNeighbours.{name_told}
use Rattle.given_packages.proofs.told_neighbours.names_of.Given as goal

-- the names so far, with those of what is left, are all
abbrev pub invariant-loop-one : goal.invariant-loop-one
invariant-loop-one l =
    (path : List ℕ) → or_else (names_by_path l.names path) (name_told (drop l.one-index l.imported) path)
    ≡ name_told l.imported path
