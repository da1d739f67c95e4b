use Rattle.std.proofs.Common.{◌≡◌, ◌++◌, map, drop}
use Rattle.imports.specs.Views.{packages_view}
use Rattle.given_packages.specs.ToldNeighbours.{item_of}
use Rattle.given_packages.proofs.told_neighbours.lists_of.Given as goal

-- what was listed, with what is left, is the whole
abbrev pub invariant-loop-one : goal.invariant-loop-one
invariant-loop-one l =
    packages_view l.lists.items ++ map item_of (drop l.one-index l.imported) ≡ map item_of l.imported
