use Rattle.std.proofs.Common.{◌≡◌, ◌++◌, map, drop}
use Rattle.whole_packages.specs.LoadedViews.{numbered_view, readings_of}
use Rattle.tree.specs.View.{file_syntax}
use Rattle.meaning_reports.specs.Loaded.{trees_from}
use Rattle.whole_packages.proofs.numbered.with_numbers.Given as goal

-- what was found, with what is left, is the whole
abbrev pub invariant-loop-file : goal.invariant-loop-file
invariant-loop-file l =
    map numbered_view l.found.items ++ trees_from l.file (readings_of (drop l.file l.readings) (map file_syntax l.rest))
    ≡ trees_from 0 (readings_of l.readings (map file_syntax l.trees))
