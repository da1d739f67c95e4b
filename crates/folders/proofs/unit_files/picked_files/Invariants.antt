use Rattle.std.proofs.Common.{◌≡◌, ◌++◌, drop, map, string_bytes}
use Rattle.folders.specs.UnitFiles.{picked_files}
use Rattle.folders.proofs.unit_files.picked_files.Given as goal

-- the files so far, and those of the names that are left
abbrev pub invariant-loop-name : goal.invariant-loop-name
invariant-loop-name l =
    map string_bytes l.files.items ++ picked_files l.with_tests l.folder (map string_bytes (drop l.name-index l.names))
    ≡ picked_files l.with_tests l.folder (map string_bytes l.names)
