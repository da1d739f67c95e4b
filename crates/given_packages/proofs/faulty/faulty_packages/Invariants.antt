use Rattle.std.proofs.Common.{◌≡◌, ◌++◌, map, drop}
use Rattle.imports.specs.Views.{at_path}
use Rattle.whole_packages.specs.WholeEntries.{is_faulty}
use Rattle.given_packages.proofs.faulty.faulty_packages.Given as goal

-- the marks so far, with those of the packages that are left, are all
abbrev pub invariant-loop-loaded : goal.invariant-loop-loaded
invariant-loop-loaded l =
    let mark = is_faulty (at_path l.unranked.places.now) l.unranked.marks.now in
    l.marks.items ++ map mark (drop l.loaded-index l.packages) ≡ map mark l.packages
