use Rattle.std.proofs.Common.{◌++◌, List, drop}
use Rattle.std.specs.Vec.Iter.{into_iter_items}
use Rattle.load.specs.Ahead.{files_in, AreReadAhead, EditionAndFile}
use Rattle.load.specs.GivenPackages.{paths_of}
use Rattle.load.proofs.FilesLoaded.{LoadsSo}
use Rattle.load.proofs.package.load_package.Given as goal

-- the files so far, what is left, and what is read ahead of that and of what comes after it
abbrev pub invariant-loop-source : goal.invariant-loop-source
invariant-loop-source l =
    let left = drop l.source-index l.source-items in
    (after : List EditionAndFile)
    → AreReadAhead (files_in l.edition l.source-items ++ after) (into_iter_items l.initial.ahead)
    → LoadsSo l.edition (paths_of l.imports) l.source-items left l.readings.items l.trees.items
    × AreReadAhead (files_in l.edition left ++ after) (into_iter_items l.ahead)
