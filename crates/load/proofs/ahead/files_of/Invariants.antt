use Rattle.std.proofs.Common.{◌≡◌, ◌++◌, map, drop}
use Rattle.load.specs.Ahead.{file_view, files_of}
use Rattle.load.proofs.ahead.files_of.Given as goal

-- what was added, with what is left, is the whole
abbrev pub invariant-loop-one : goal.invariant-loop-one
invariant-loop-one l =
    map file_view l.files.items ++ files_of (drop l.one-index l.packages) ≡ files_of l.packages
