use Rattle.std.proofs.Common.{◌≡◌, drop, map, string_bytes}
use Rattle.std.specs.List.{list_any}
use Rattle.test_packages.specs.ReadPackages.{is_go_file}
use Rattle.test_packages.proofs.same.has_go_file.Given as goal

-- those that are left tell whether one of all is such a file
abbrev pub invariant-loop-name : goal.invariant-loop-name
invariant-loop-name l =
    list_any is_go_file (map string_bytes (drop l.name-index l.files)) ≡ list_any is_go_file (map string_bytes l.files)
