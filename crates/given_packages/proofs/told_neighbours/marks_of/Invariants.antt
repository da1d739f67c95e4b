use Rattle.std.proofs.Common.{◌≡◌, ◌++◌, map, drop}
use Rattle.given_packages.specs.declared.told_neighbours.ImportedPackage.{ImportedPackage}
use Rattle.given_packages.proofs.told_neighbours.marks_of.Given as goal

-- the marks so far, with those of what is left, are all
abbrev pub invariant-loop-one : goal.invariant-loop-one
invariant-loop-one l =
    l.marks.items ++ map (λ (k : ImportedPackage). k.is_counted) (drop l.one-index l.imported)
    ≡ map (λ (k : ImportedPackage). k.is_counted) l.imported
