use Rattle.std.proofs.Common.{◌≡◌, ◌++◌, map, drop}
use Rattle.load.specs.Ahead.{file_view, files_in}
use Rattle.load.proofs.ahead.add_files.Given as goal

-- what was added, with what is left, is the whole
abbrev pub invariant-loop-source : goal.invariant-loop-source
invariant-loop-source l =
    map file_view l.files.items ++ files_in l.edition (drop l.source-index l.sources)
    ≡ map file_view l.initial.files.items ++ files_in l.edition l.sources
