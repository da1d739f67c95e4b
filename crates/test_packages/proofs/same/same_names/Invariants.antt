use Rattle.std.proofs.Common.{◌≡◌, drop, map, string_bytes}
use Rattle.test_packages.specs.ReadPackages.{same_names}
use Rattle.test_packages.proofs.same.same_names.Given as goal

-- those that are left tell whether all are the same
abbrev pub invariant-loop-index : goal.invariant-loop-index
invariant-loop-index l =
    same_names (map string_bytes (drop l.index l.one)) (map string_bytes (drop l.index l.other))
    ≡ same_names (map string_bytes l.one) (map string_bytes l.other)
