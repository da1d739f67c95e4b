use Rattle.std.specs.List.{AllZip}
use Rattle.std.specs.Vec.Iter.{into_iter_items}
use Rattle.package_pieces.specs.Built.{IsBuilt}
use Rattle.package_pieces.specs.Numbers.{opened_numbers}
use Rattle.path_faults.specs.FoundFaults.{each_from}
use Rattle.package_pieces.proofs.Built.{AreBuilt}
use Rattle.package_pieces.proofs.building.by_file.Given as goal

-- the bodies of the files so far are made, and those of the others are left
abbrev pub invariant-loop-file : goal.invariant-loop-file
invariant-loop-file l =
    AllZip (IsBuilt l.files) (each_from opened_numbers 0 l.files) l.fn.bodies.items
    → AreBuilt l.files l.file-index l.made.items (into_iter_items l.left)
